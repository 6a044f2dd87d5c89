-- One mark more, and the end.
use mathlib.Core.Path.{sym}
use native.Mathlib.Omega.{arith}
use Rattle.circuit.proofs.OddSet.{length-odd, odd_mark}
use Rattle.gf2.proofs.Table.{filled_all, filled_next}
use Rattle.weights.proofs.put_odd_set.Goals as goal

pub loop-p-preserved : goal.loop-p-preserved
loop-p-preserved c =
    filled_next _ _ c.loop-p.p _ (omega arith) c.loop-p.invariant (sym (odd_mark c.args.weights.now c.loop-p.p))

pub returns : goal.returns
returns c =
    let e = length-odd c.args.weights.now in
    filled_all _ _ c.loop-p.p (omega (arith, e)) (omega (arith, e)) c.loop-p.invariant
