-- After some rows the masks combine the rows that the wires would hold to the rows given.
use Rattle.synth.proofs.RowTurns.{SolvingTo}
use Rattle.synth.proofs.faults.check_dependence.Given as goal

abbrev pub invariant-loop-row : goal.invariant-loop-row
invariant-loop-row l = SolvingTo l.fn.wires l.rows l.row-iterator
