-- No gate for weight 0.
use mathlib.Core.Path.{◌≡◌}
use native.Mathlib.Omega.{arith}
use Rattle.written.specs.Spelling.{spell, spelling}
use Rattle.synth.proofs.Stores.{stored_none}
use Rattle.synth.proofs.spelling.spell_out.Goals as goal

pub returns-in_default : goal.returns-in_default
unfolding spell spelling
returns-in_default c =
    let e : c.args.v ≡ 0 = omega arith in rw e (stored_none _)
