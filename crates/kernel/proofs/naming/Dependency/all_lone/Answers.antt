-- Neither a nor the member of a slot passed so far has its partner.
use mathlib.Core.Path.{refl}
use Rattle.kernel.proofs.SetsNamed.{no_pair, none_end, none_start, none_turn}
use Rattle.kernel.specs.Naming.{set_with}
use Rattle.kernel.proofs.naming.Dependency.all_lone.Goals as goal

pub loop-s-init : goal.loop-s-init
loop-s-init c =
    let d = c.args.self.now in
    rw c.into_iter-s-iterator.ensures.into_iter_gives
    (none_start c.args.partners.now.marks.now (set_with d.a d.mask d.columns.now.member) c.args.partners.now.z d.columns.now.member
    c.new-s-items.ensures)

pub loop-s-preserved : goal.loop-s-preserved
loop-s-preserved c =
    none_turn c.loop-s.invariant c.in-Some.ensures.steps refl (λ q. c.has_partner-in-loop-s.ensures.1 c.if-has_partner-2.false q.partner)

pub returns : goal.returns
returns c =
    let d = c.args.self.now in
    λ _. no_pair c.args.partners.now.marks.now c.args.partners.now.z d.a d.mask d.columns.now.member
    (λ q. c.has_partner.ensures.1 c.if-has_partner.false q.partner) (none_end c.loop-s.invariant c.in-None.ensures.steps)
