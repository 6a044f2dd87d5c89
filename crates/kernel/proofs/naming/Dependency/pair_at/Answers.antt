-- Neither a nor the member of a slot passed so far is one of a pair.
use mathlib.Core.Path.{refl}
use Rattle.kernel.proofs.SetsNamed.{none_end, none_start, none_turn, pair_none}
use Rattle.kernel.proofs.naming.Dependency.pair_at.Goals as goal

pub loop-s-init : goal.loop-s-init
loop-s-init c =
    rw c.into_iter-s-iterator.ensures.into_iter_gives
    (none_start c.args.partners.now.marks.now c.args.set.now c.args.partners.now.z c.args.self.now.columns.now.member c.new-s-items.ensures)

pub loop-s-preserved : goal.loop-s-preserved
loop-s-preserved c =
    none_turn c.loop-s.invariant c.in-Some.ensures.steps refl (c.is_pair-in-loop-s.ensures.1 c.if-is_pair-2.false)

pub returns : goal.returns
returns c =
    pair_none c.requires (c.is_pair.ensures.1 c.if-is_pair.false) (none_end c.loop-s.invariant c.in-None.ensures.steps)
