-- The parities below p are written.
use native.Mathlib.Omega.{arith}
use Rattle.synth.proofs.PhaseTurns.{parity-ready, phases_first, phases_last, phases_turn}
use Rattle.synth.proofs.phases.write_phases.Goals as goal

pub loop-p-init : goal.loop-p-init
loop-p-init c = phases_first _ _ _

pub write_parity-requires : goal.write_parity-requires
write_parity-requires c = parity-ready _ _ c.parities.ensures.0 c.requires c.loop-p.invariant c.loop-p-test.true

pub loop-p-preserved : goal.loop-p-preserved
loop-p-preserved c = phases_turn _ _ c.parities.ensures.0 c.requires c.loop-p.invariant c.loop-p-test.true c.write_parity.ensures

pub returns : goal.returns
returns c = phases_last _ _ c.parities.ensures.0 c.requires c.loop-p.invariant (omega arith)
