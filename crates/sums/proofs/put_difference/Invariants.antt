-- The difference is filled from the front.
use Rattle.std.proofs.Common.{length}
use Rattle.gf2.proofs.Table.{Filled}
use Rattle.sums.specs.Difference.{difference}
use Rattle.sums.proofs.put_difference.Given as goal

abbrev pub invariant-loop-p : goal.invariant-loop-p
invariant-loop-p l = Filled l.out (difference (length l.initial.out) l.w l.u) l.p
