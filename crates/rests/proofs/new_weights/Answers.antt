-- The checks that passed say that the weights and the marks are sound.
use mathlib.Core.Path.{sym}
use Rattle.circuit.proofs.TableRule.{marks_sound, weights_passes}
use Rattle.circuit.specs.Limits.{parities}
use Rattle.rests.proofs.new_weights.Goals as goal

pub put_new_weights-requires : goal.put_new_weights-requires
put_new_weights-requires c =
    let w = (weights_passes c.args.n _ c.args.weights.now).0 (sym c.in_ok-wires.ensures.fault) in
    let u = (marks_sound parities c.args.n c.args.marks.now).0 (sym c.in_ok-u.ensures.fault) in
    let same = c.in_ok-wires.ensures.same in
    rw (same.0, same.1, c.in_ok-u.ensures.same) (w.2, u)
