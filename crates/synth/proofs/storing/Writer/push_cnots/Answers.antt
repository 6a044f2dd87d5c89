-- The CNOTs from the wires passed are stored.
use Rattle.synth.proofs.PhaseTurns.{cnots_end, cnots_first, cnots_room, cnots_turn}
use Rattle.synth.proofs.storing.Writer.push_cnots.Goals as goal

pub loop-i-init : goal.loop-i-init
loop-i-init c = rw c.into_iter-i-iterator.ensures.into_iter_gives (cnots_first _ _ _ _ c.from.ensures c.new-i-items.ensures)

pub push-requires : goal.push-requires
push-requires c = cnots_room c.loop-i.invariant c.in-Some.ensures.steps c.requires

pub loop-i-preserved : goal.loop-i-preserved
loop-i-preserved c = cnots_turn c.loop-i.invariant c.in-Some.ensures.steps (rw c.into.ensures at c.push.ensures)

pub returns : goal.returns
returns c = cnots_end c.loop-i.invariant c.in-None.ensures.steps
