-- Neither a nor the member of a slot passed so far is one of a pair.
use Rattle.kernel.proofs.SetsNamed.{NoneTo}
use Rattle.kernel.proofs.naming.Dependency.pair_at.Given as goal

abbrev pub invariant-loop-s : goal.invariant-loop-s
invariant-loop-s l = NoneTo l.partners.marks.now l.partners.z l.set l.self.mask l.self.columns.now.member l.s-iterator
