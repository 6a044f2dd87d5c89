-- CNOTs into the lowest wire, the spelling, the same CNOTs.
use mathlib.Core.Logic.{◌≢◌}
use native.Mathlib.Omega.{arith}
use Rattle.synth.proofs.PhaseTurns.{parity-none, parity-room, parity-stored, spell_room, undo_room}
use Rattle.synth.proofs.phases.write_parity.Goals as goal

pub returns-then-v-eq0 : goal.returns-then-v-eq0
returns-then-v-eq0 c = parity-none _ _ _ _ (omega arith)

pub lowest-t-requires : goal.lowest-t-requires
lowest-t-requires c =
    let some : c.args.v ≢ 0 = omega arith in
    (λ e. some (c.requires.none e), c.requires.inside)

pub push_cnots-requires : goal.push_cnots-requires
push_cnots-requires c =
    parity-room c.requires (omega arith) c.lowest-t.ensures.0 c.unit.ensures

pub spell_out-requires : goal.spell_out-requires
spell_out-requires c =
    (c.requires.small, spell_room c.requires (omega arith) c.lowest-t.ensures.0 c.unit.ensures c.push_cnots.ensures)

pub push_cnots-requires-2 : goal.push_cnots-requires-2
push_cnots-requires-2 c =
    undo_room c.requires (omega arith) c.lowest-t.ensures.0 c.unit.ensures c.push_cnots.ensures c.spell_out.ensures

pub returns : goal.returns
returns c =
    parity-stored c.requires (omega arith) c.lowest-t.ensures.0 c.unit.ensures c.push_cnots.ensures c.spell_out.ensures
    c.push_cnots-2.ensures
