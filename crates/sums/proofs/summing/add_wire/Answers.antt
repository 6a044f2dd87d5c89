-- One block more, and the end.
use mathlib.Core.Path.{refl, ◌≡◌}
use Prim.Native.Nat.{◌%◌, ◌*◌, ◌/◌, ◌<◌, ◌^◌}
use native.Mathlib.Omega.{arith}
use lib.ListN.{length}
use lib.Pow.{pow_pos}
use Rattle.circuit.proofs.Steps.{shifted}
use Rattle.sums.proofs.BlockSums.{block_next, blocks_all, wire_end}
use Rattle.sums.proofs.summing.add_wire.Goals as goal

pub loop-b-preserved : goal.loop-b-preserved
loop-b-preserved c =
    let i = c.args.i in
    let half : 1 * 2 ^ i % 2 ^ 64 ≡ 2 ^ i = shifted 64 i (omega arith) in
    let there : c.loop-b.b < length c.loop-b.s / (2 * 2 ^ i) = rw (c.loop-b.auto.s, ← half) c.loop-b-test.true in
    block_next c.loop-b.b half (rw half refl) (rw half (omega arith)) there c.loop-b.invariant c.add_block.ensures

pub returns : goal.returns
returns c =
    let i = c.args.i in
    let half : 1 * 2 ^ i % 2 ^ 64 ≡ 2 ^ i = shifted 64 i (omega arith) in
    let all = c.requires.1 in
    let size : 0 < 2 * 2 ^ i = omega (arith, pow_pos i) in
    let passed = rw half at c.loop-b-test.false in
    let whole = blocks_all c.loop-b.b all.blocks (2 * 2 ^ i) (length c.args.s.now) size all.long passed in
    wire_end c.loop-b.invariant (omega (arith, c.loop-b.invariant.as_long, whole))
