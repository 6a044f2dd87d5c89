-- What is left of the set flips the marks so far to what the whole set makes of those lent, and as many differ as the count so far says.
use Rattle.carry.proofs.Carrying.{FlippedTo}
use Rattle.carry.proofs.flips.flip_pairs.Given as goal

abbrev pub invariant-loop-y : goal.invariant-loop-y
invariant-loop-y l = FlippedTo l.fn.marks l.z l.ys l.y-index l.marks l.up
