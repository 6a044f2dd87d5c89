-- Neither a nor the member of a slot passed so far has its partner.
use Rattle.kernel.proofs.SetsNamed.{NoneTo}
use Rattle.kernel.specs.Naming.{set_with}
use Rattle.kernel.proofs.naming.Dependency.all_lone.Given as goal

abbrev pub invariant-loop-s : goal.invariant-loop-s
invariant-loop-s l =
    let d = l.self in
    NoneTo l.partners.marks.now l.partners.z (set_with d.a d.mask d.columns.now.member) d.mask d.columns.now.member l.s-iterator
