-- The cells of the set of those numbers passed so far that are marked.
use Rattle.kernel.proofs.SetsNamed.{ListedTo}
use Rattle.kernel.proofs.naming.list.Given as goal

abbrev pub invariant-loop-y : goal.invariant-loop-y
invariant-loop-y l = ListedTo l.z l.set l.y l.cells
