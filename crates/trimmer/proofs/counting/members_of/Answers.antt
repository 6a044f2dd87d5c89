-- The marks of n wires are listed, and summed.
use mathlib.Core.Path.{◌∙◌}
use Prim.Native.Nat.{◌^◌}
use native.Mathlib.Omega.{arith}
use lib.ListN.{take}
use borrow.Author.Rules.{rules}
use Rattle.std.proofs.lemmas.Iterator.{YieldsList-from_map, YieldsList-from_slice}
use Rattle.std.proofs.lemmas.Iterator.Consumers.{YieldsList-at, fits_from_yields_list, sum_from_yields_List}
use Rattle.std.proofs.lemmas.List.{map-id}
use Rattle.trimmer.proofs.Counted.{members_few, members_listed}
use Rattle.trimmer.proofs.counting.members_of.Goals as goal

pub sum-requires-clause-fits : goal.sum-requires-clause-fits
sum-requires-clause-fits c =
    let marks = take c.parities.result c.args.marks.now in
    fits_from_yields_list c.map.result (2 ^ 64)
    (YieldsList-from_map _ (λ x. x) (YieldsList-at c.map.ensures.source (YieldsList-from_slice marks c.iter.ensures.rest))
    c.map.ensures.closure (λ x r q k. search rules))
    (rw (map-id marks, c.parities.ensures.0) (omega (arith, members_few c.requires)))

pub returns : goal.returns
returns c =
    let marks = take c.parities.result c.args.marks.now in
    sum_from_yields_List c.map.result _ c.sum.ensures.ran
    (YieldsList-from_map _ (λ x. x) (YieldsList-at c.map.ensures.source (YieldsList-from_slice marks c.iter.ensures.rest))
    c.map.ensures.closure (λ x r q k. search rules))
    ∙ (rw (map-id marks, c.parities.ensures.0) (members_listed c.requires))
