-- The xors of those passed, and of those to come, are those of all.
use Rattle.circuit.specs.Limits.{max_wires}
use Rattle.legality.proofs.Xors.{XorTo}
use Rattle.moves.specs.Column.{bar_pairs}
use Rattle.legality.proofs.Move.is_balanced.Given as goal

abbrev pub invariant-loop-y : goal.invariant-loop-y
invariant-loop-y l =
    XorTo (λ y. y) l.self.ys.now l.y-index l.total × XorTo (bar_pairs max_wires l.self.z l.t) l.self.ys.now l.y-index l.pairs
