-- The marks of the members of the slots passed so far, their xor, and a number that none of them is above.
use Rattle.kernel.proofs.SetsNamed.{NamedTo}
use Rattle.kernel.proofs.naming.Dependency.name_set.Given as goal

abbrev pub invariant-loop-s : goal.invariant-loop-s
invariant-loop-s l = NamedTo l.self.a l.self.mask l.self.columns.now.member l.s-iterator l.set l.total l.top
