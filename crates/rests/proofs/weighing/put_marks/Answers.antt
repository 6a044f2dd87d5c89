-- One byte more, and the end.
use mathlib.Core.Path.{refl}
use native.Mathlib.Omega.{arith}
use lib.ListN.{length-set}
use Rattle.gf2.proofs.Table.{filled_all, filled_next}
use Rattle.rests.proofs.weighing.put_marks.Goals as goal

pub loop-p-preserved : goal.loop-p-preserved
loop-p-preserved c = (simp length-set (omega arith), filled_next _ _ c.loop-p.p _ (omega arith) c.loop-p.invariant.1 refl)

pub returns : goal.returns
returns c = filled_all _ _ c.loop-p.p c.loop-p.invariant.0 (omega arith) c.loop-p.invariant.1
