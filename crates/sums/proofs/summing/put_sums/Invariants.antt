-- The wires passed are done.
use Rattle.sums.specs.Summing.{SumsTo}
use Rattle.sums.proofs.summing.put_sums.Given as goal

abbrev pub invariant-loop-i : goal.invariant-loop-i
invariant-loop-i l = SumsTo l.i l.fn.s l.s
