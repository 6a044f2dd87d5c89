-- The phases, then the rows behind them.
use mathlib.Core.Path.{refl}
use borrow.Author.Rules.{rules}
use Rattle.synth.proofs.WriteWays.{gates_stored, phases_ready, rows_ready}
use Rattle.synth.proofs.write_sound.Goals as goal

pub write_phases-requires : goal.write_phases-requires
write_phases-requires c = phases_ready _ _ _ _ c.requires _ c.new-to.ensures.wires c.new-to.ensures.bytes c.new-to.ensures.count

pub write_rows-requires : goal.write_rows-requires
write_rows-requires c =
    rows_ready _ _ _ _ c.requires _ c.new-to.ensures.wires c.new-to.ensures.bytes c.new-to.ensures.count c.write_phases.ensures

pub returns : goal.returns
returns c =
    gates_stored _ _ _ _ c.requires _ c.new-to.ensures.wires c.new-to.ensures.bytes c.new-to.ensures.count c.write_phases.ensures
    c.write_rows.ensures (search rules) refl
