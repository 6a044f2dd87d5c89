-- Length, then bits and rows beyond n, then dependence.
use mathlib.Core.Path.{◌∙◌, ◌≡◌, ap, refl, sym}
use Prim.Native.Nat.{◌-◌, ◌^◌}
use borrow.Author.Rules.{rules}
use Rattle.circuit.proofs.Results.{numbered}
use Rattle.circuit.specs.Limits.{row_cells}
use Rattle.circuit.specs.Told.{fault_told, number}
use Rattle.written.proofs.RowRule.{other_length, rows_beyond, rows_cancel, shaped}
use Rattle.written.specs.Faults.{beyond_fault, cancel_fault}
use Rattle.synth.proofs.faults.check_rows.Goals as goal

pub returns-in_default-clause-fault : goal.returns-in_default-clause-fault
returns-in_default-clause-fault c = other_length row_cells _ _ (search rules)

pub returns-in_err-check_beyond-clause-fault : goal.returns-in_err-check_beyond-clause-fault
returns-in_err-check_beyond-clause-fault c =
    let long = c.in-Some.ensures.cases in
    let f : fault_told c.from_residual.result ≡ number c.in_err-check_beyond.field-0.0 = search rules in
    f
    ∙ rows_beyond row_cells c.args.wires.count c.args.rows.now long.long _
    (c.in_err-check_beyond.ensures ∙ ap (beyond_fault c.args.wires.count 0) long.same) (numbered c.in_err-check_beyond.field-0.0)

pub check_dependence-requires : goal.check_dependence-requires
check_dependence-requires c = shaped row_cells _ _ (search rules) (sym c.in_ok-check_beyond.ensures)

pub returns-in_err-check_dependence-clause-fault : goal.returns-in_err-check_dependence-clause-fault
returns-in_err-check_dependence-clause-fault c =
    let long = c.in-Some.ensures.cases in
    let f : fault_told c.from_residual-in_err-check_dependence.result ≡ number c.in_err-check_dependence.field-0.0 = search rules in
    f ∙ c.in_err-check_dependence.ensures ∙ ap (cancel_fault (2 ^ c.args.wires.count - 1)) long.same
    ∙ rows_cancel row_cells c.args.wires.count c.args.rows.now long.long _
    (c.in_ok-check_beyond.ensures ∙ ap (beyond_fault c.args.wires.count 0) long.same) refl

pub returns-clause-fault : goal.returns-clause-fault
returns-clause-fault c =
    let long = c.in-Some.ensures.cases in
    c.in_ok-check_dependence.ensures ∙ ap (cancel_fault (2 ^ c.args.wires.count - 1)) long.same
    ∙ rows_cancel row_cells c.args.wires.count c.args.rows.now long.long _
    (c.in_ok-check_beyond.ensures ∙ ap (beyond_fault c.args.wires.count 0) long.same) refl
