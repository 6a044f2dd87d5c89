-- The mask so far, as those of its slots are gone through from below that it names.
use Rattle.echelon.proofs.Slots.{mask_end, mask_start, mask_turn}
use Rattle.echelon.proofs.Echelon.by_members.Goals as goal

pub loop-s-init : goal.loop-s-init
loop-s-init c = mask_start _ c.new-slots.ensures

pub loop-s-preserved : goal.loop-s-preserved
loop-s-preserved c = mask_turn c.loop-s.invariant c.in-Some.ensures.steps c.turn_over.ensures

pub returns : goal.returns
returns c = mask_end c.loop-s.invariant c.in_default.ensures.steps
