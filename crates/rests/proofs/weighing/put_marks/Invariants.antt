-- The output is filled from the front.
use mathlib.Core.Path.{◌≡◌}
use lib.ListN.{length}
use Rattle.gf2.proofs.Table.{Filled}
use Rattle.rests.proofs.weighing.put_marks.Given as goal

abbrev pub invariant-loop-p : goal.invariant-loop-p
invariant-loop-p l = (length l.out ≡ length l.u) × Filled l.out l.u l.p
