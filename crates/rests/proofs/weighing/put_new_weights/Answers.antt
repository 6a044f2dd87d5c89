-- The marks with the rests by the sums.
use Prim.Native.Nat.{◌^◌, ◌≤◌}
use lib.Pow.{pow_mono}
use Rattle.circuit.specs.Limits.{max_wires, parities}
use Rattle.rests.proofs.RestSteps.{new_made}
use Rattle.sums.proofs.Difference.{sums_long}
use Rattle.rests.proofs.weighing.put_new_weights.Goals as goal

pub invariant_of-sums : goal.invariant_of-sums
invariant_of-sums c = record { fit = sums_long _ c.args.w.now c.args.u.now _ c.difference_sums-s.ensures }

pub returns : goal.returns
returns c =
    let a = c.requires in
    let n = c.args.wires.count in
    let room : 2 ^ n ≤ parities = pow_mono {i = n} {j = max_wires} c.args.wires.few in
    new_made room a.0 a.1 c.difference_sums-s.ensures c.put_marks.ensures c.add_rests.ensures
