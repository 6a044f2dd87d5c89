-- The gates of the rows solved are stored, and the masks say what is left.
use Rattle.synth.proofs.RowTurns.{lack_room, pivot_there, rows_first, rows_last, rows_next, surplus_room}
use Rattle.synth.proofs.rows.write_rows.Goals as goal

pub loop-row-init : goal.loop-row-init
loop-row-init c =
    let new = c.new-row-items.ensures in
    rw c.into_iter-row-iterator.ensures.into_iter_gives (rows_first c.requires new.wires new.masks new.r)

pub unwrap-step-requires : goal.unwrap-step-requires
unwrap-step-requires c = pivot_there c.loop-row.invariant c.requires _ _ c.in-Some.ensures.steps

pub push_cnots-requires : goal.push_cnots-requires
push_cnots-requires c =
    lack_room c.loop-row.invariant c.requires (rw c.unwrap-step.ensures at c.in-Some.ensures.steps)

pub push_cnots-requires-in-loop-row : goal.push_cnots-requires-in-loop-row
push_cnots-requires-in-loop-row c =
    surplus_room c.loop-row.invariant c.requires (rw c.unwrap-step.ensures at c.in-Some.ensures.steps) c.push_cnots.ensures

pub loop-row-preserved : goal.loop-row-preserved
loop-row-preserved c =
    rows_next c.loop-row.invariant c.requires (rw c.unwrap-step.ensures at c.in-Some.ensures.steps) c.push_cnots.ensures
    c.push_cnots-in-loop-row.ensures

pub returns : goal.returns
returns c = rows_last c.loop-row.invariant c.in-None.ensures.steps.0
