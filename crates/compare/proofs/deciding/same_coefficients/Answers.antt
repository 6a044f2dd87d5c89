-- The sums tell nothing exactly where the coefficients are the same.
use Prim.Native.Nat.{◌^◌, ◌≤◌}
use native.Mathlib.Omega.{arith}
use lib.Pow.{pow_mono}
use Rattle.circuit.specs.Limits.{max_wires, parities}
use Rattle.sums.proofs.Difference.{sums_long}
use Rattle.compare.proofs.BySums.{decided_by_sums}
use Rattle.compare.proofs.deciding.same_coefficients.Goals as goal

pub none_tells-requires : goal.none_tells-requires
none_tells-requires c =
    let n = c.args.wires.count in
    let room : 2 ^ n ≤ parities = pow_mono {i = n} {j = max_wires} c.args.wires.few in
    omega (arith, room, sums_long n c.args.w.now c.args.v.now _ c.difference_sums.ensures)

pub returns : goal.returns
returns c =
    let n = c.args.wires.count in
    let room : 2 ^ n ≤ parities = pow_mono {i = n} {j = max_wires} c.args.wires.few in
    decided_by_sums room c.requires.0 c.requires.1 c.difference_sums.ensures c.none_tells.ensures
