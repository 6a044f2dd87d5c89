-- 1, 8 and 6, then 7.
use mathlib.Core.Path.{◌∙◌, ◌≡◌, ap, refl}
use Prim.Native.Nat.{ℕ}
use borrow.Author.Rules.{rules}
use Rattle.circuit.proofs.Results.{numbered}
use Rattle.circuit.specs.Limits.{row_cells}
use Rattle.circuit.specs.Told.{fault_told, number}
use Rattle.written.proofs.Checks.{call_refuses, rows_decide}
use Rattle.written.specs.Faults.{rows_fault}
use Rattle.synth.proofs.faults.check_write.Goals as goal

pub returns-in_err-wires-clause-fault : goal.returns-in_err-wires-clause-fault
returns-in_err-wires-clause-fault c =
    let f : fault_told c.from_residual.result ≡ number c.in_err-wires.field-0.0 = search rules in
    f ∙ call_refuses _ _ _ _ _ _ c.check_room-lent.ensures c.in_err-wires.ensures.fault (numbered c.in_err-wires.field-0.0)

pub returns-in_err-rows-clause-fault : goal.returns-in_err-rows-clause-fault
returns-in_err-rows-clause-fault c =
    let f : fault_told c.from_residual-in_err-rows.result ≡ number c.in_err-rows.field-0.0 = search rules in
    let call = c.in_ok-wires.ensures in
    f ∙ c.in_err-rows.ensures.fault ∙ ap (λ (n : ℕ). rows_fault row_cells n c.args.rows.now) call.same.0
    ∙ rows_decide _ _ _ _ _ _ c.check_room-lent.ensures call.fault refl

pub returns-clause-fault : goal.returns-clause-fault
returns-clause-fault c =
    let call = c.in_ok-wires.ensures in
    c.in_ok-rows.ensures.fault ∙ ap (λ (n : ℕ). rows_fault row_cells n c.args.rows.now) call.same.0
    ∙ rows_decide _ _ _ _ _ _ c.check_room-lent.ensures call.fault refl
