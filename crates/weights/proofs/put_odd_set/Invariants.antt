-- The marks are filled from the front.
use Rattle.circuit.specs.OddSet.{odd_set}
use Rattle.gf2.proofs.Table.{Filled}
use Rattle.weights.proofs.put_odd_set.Given as goal

abbrev pub invariant-loop-p : goal.invariant-loop-p
invariant-loop-p l = Filled l.marks (odd_set l.weights) l.p
