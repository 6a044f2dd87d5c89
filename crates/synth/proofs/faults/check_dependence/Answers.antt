-- After some rows the masks combine the rows that the wires would hold to the rows given.
use mathlib.Core.Path.{◌∙◌, ◌≡◌}
use borrow.Author.Rules.{rules}
use Rattle.circuit.specs.Told.{fault_told, number}
use Rattle.synth.proofs.RowTurns.{solving_first, solving_last, solving_next, solving_stuck}
use Rattle.synth.proofs.faults.check_dependence.Goals as goal

pub loop-row-init : goal.loop-row-init
loop-row-init c =
    let new = c.new-row-items.ensures in
    rw c.into_iter-row-iterator.ensures.into_iter_gives
    (solving_first new.wires new.masks new.r c.requires.long c.requires.within)

pub loop-row-preserved : goal.loop-row-preserved
loop-row-preserved c = solving_next c.loop-row.invariant (rw c.in_ok-row.was at c.in-Some.ensures.steps)

pub returns-in_err-row : goal.returns-in_err-row
returns-in_err-row c =
    let f : fault_told c.from_residual.result ≡ number c.in_err-row.field-0.0 = search rules in
    f ∙ solving_stuck c.loop-row.invariant (rw c.in_err-row.was at c.in-Some.ensures.steps)

pub returns : goal.returns
returns c = solving_last c.loop-row.invariant c.in-None.ensures.steps.0 c.requires
