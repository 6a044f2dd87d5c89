-- The difference is as long as its sums want it, and small.
use mathlib.Core.Path.{◌∙◌}
use native.Mathlib.Omega.{arith}
use Rattle.std.proofs.lemmas.Grind.{common_steps}
use Rattle.sums.proofs.Difference.{difference_fits}
use Rattle.sums.proofs.put_difference_sums.Goals as goal

pub put_sums-requires : goal.put_sums-requires
put_sums-requires c =
    let fits = difference_fits _ c.args.w.now c.args.u.now _ c.put_difference.ensures in
    (fits.0 ∙ grind (arith, common_steps), fits.1)
