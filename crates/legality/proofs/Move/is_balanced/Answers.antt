-- The xors of those passed, and of those to come, are those of all; both decide.
use mathlib.Core.Path.{refl}
use native.Mathlib.Omega.{arith}
use Rattle.circuit.specs.Limits.{max_wires}
use Rattle.legality.proofs.Xors.{balanced_by_pairs, not_balanced, pairs_of_bar, xor_all_end, xor_end, xor_next}
use Rattle.legality.proofs.Move.is_balanced.Goals as goal

pub loop-y-preserved : goal.loop-y-preserved
loop-y-preserved c =
    let bar_is = rw (c.from-z.ensures, c.from.ensures) at c.bar.ensures.0 in
    let of-bar = pairs_of_bar max_wires c.args.self.now.z c.lowest-t.result _ c.pairs_of-pairs.ensures bar_is in
    (xor_next c.loop-y.invariant.0 (omega arith) refl refl, xor_next c.loop-y.invariant.1 (omega arith) refl of-bar)

pub returns-then-total-eq0 : goal.returns-then-total-eq0
returns-then-total-eq0 c =
    balanced_by_pairs c.requires.0 c.requires.1 c.requires.2 c.lowest-t.ensures.0 (xor_all_end c.loop-y.invariant.0 (omega arith))
    (xor_end c.loop-y.invariant.1 (omega arith)) c.if-total-eq0.true

pub returns-else-total-eq0 : goal.returns-else-total-eq0
returns-else-total-eq0 c =
    not_balanced c.requires.0 c.requires.1 c.requires.2 c.lowest-t.ensures.0 (xor_all_end c.loop-y.invariant.0 (omega arith))
    (xor_end c.loop-y.invariant.1 (omega arith)) c.if-total-eq0.false
