-- The moves made so far replay from the first marks, and each makes the odd set smaller.
use Rattle.circuit.specs.OddSet.{member_count}
use Rattle.moving.proofs.Making.{Turn}
use Rattle.moving.proofs.make_moves.Given as goal

abbrev pub invariant-loop-cells : goal.invariant-loop-cells
invariant-loop-cells l = Turn l.wires.count l.initial.marks l.initial.log l.count l.marks l.log

abbrev pub decreases-loop-cells : goal.decreases-loop-cells
decreases-loop-cells l = member_count l.marks
