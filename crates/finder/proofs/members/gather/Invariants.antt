-- The list so far holds the members passed.
use Rattle.finder.proofs.Listing.{GatheredTo}
use Rattle.finder.proofs.members.gather.Given as goal

abbrev pub invariant-loop-p : goal.invariant-loop-p
invariant-loop-p l = GatheredTo l.marks l.list l.count l.p
