-- One place more, and the end.
use lib.ListN.{length}
use native.Mathlib.Omega.{arith}
use Rattle.gf2.proofs.Table.{filled_all, filled_next}
use Rattle.sums.proofs.Difference.{difference_at, length-difference}
use Rattle.sums.proofs.put_difference.Goals as goal

pub loop-p-preserved : goal.loop-p-preserved
loop-p-preserved c =
    let a = c.args in
    filled_next _ _ c.loop-p.p _ (omega arith) c.loop-p.invariant (difference_at (length a.out.now) a.w.now a.u.now _ (omega arith))

pub returns : goal.returns
returns c =
    let e = length-difference (length c.args.out.now) c.args.w.now c.args.u.now in
    filled_all _ _ c.loop-p.p (omega (arith, e)) (omega (arith, e)) c.loop-p.invariant
