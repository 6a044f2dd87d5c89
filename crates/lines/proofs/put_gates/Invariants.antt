-- What is left of the lines, stored behind what has been, gives all of them.
use Rattle.lines.proofs.Writing.{PutTo}
use Rattle.lines.proofs.put_gates.Given as goal

abbrev pub invariant-loop-i : goal.invariant-loop-i
invariant-loop-i l = PutTo l.gates l.initial.out l.out l.i
