-- The places passed have what stands as far on.
use Rattle.std.proofs.Common.{◌++◌}
use Rattle.sums.specs.Summing.{Added}
use Rattle.sums.proofs.summing.add_block.Given as goal

abbrev pub invariant-loop-p : goal.invariant-loop-p
invariant-loop-p l = Added 0 l.p l.h l.fn.block (l.without ++ l.having)
