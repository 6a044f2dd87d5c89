-- The blocks passed are done.
use Rattle.std.proofs.Common.{◌*◌, ◌^◌}
use Rattle.sums.specs.Summing.{WireAdded}
use Rattle.sums.proofs.summing.add_wire.Given as goal

abbrev pub invariant-loop-b : goal.invariant-loop-b
invariant-loop-b l = WireAdded l.i (l.b * (2 * 2 ^ l.i)) l.fn.s l.s
