-- One wire more.
use native.Mathlib.Omega.{arith}
use Rattle.sums.proofs.BlockSums.{in_blocks, sums_next, sums_start}
use Rattle.sums.proofs.summing.put_sums.Goals as goal

pub loop-i-init : goal.loop-i-init
loop-i-init c = sums_start c.args.s.now c.requires.1

pub add_wire-requires : goal.add_wire-requires
add_wire-requires c = (omega arith, in_blocks c.loop-i.invariant c.requires.0 (omega arith))

pub loop-i-preserved : goal.loop-i-preserved
loop-i-preserved c = sums_next c.loop-i.invariant c.requires.0 (omega arith) c.add_wire.ensures
