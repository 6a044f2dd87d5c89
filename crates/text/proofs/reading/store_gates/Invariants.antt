-- What is left of the lines, stored behind what has been, gives all of it.
use Rattle.text.proofs.Storing.{StoredTo}
use Rattle.text.proofs.reading.store_gates.Given as goal

abbrev pub invariant-loop-i : goal.invariant-loop-i
invariant-loop-i l = StoredTo l.fn.lines l.initial.gates l.gates l.i
