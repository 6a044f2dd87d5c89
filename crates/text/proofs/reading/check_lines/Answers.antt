-- Line one, then the gate lines.
use mathlib.Core.Path.{◌∙◌, ◌≡◌, refl, sym}
use borrow.Author.Rules.{rules}
use Rattle.circuit.proofs.Results.{numbered}
use Rattle.circuit.specs.Replies.{Refused}
use Rattle.circuit.specs.Told.{number, told}
use Rattle.text.proofs.TextFaults.{count_passed, count_refused}
use Rattle.text.proofs.reading.check_lines.Goals as goal

pub returns-in_err-wires-clause-reply : goal.returns-in_err-wires-clause-reply
returns-in_err-wires-clause-reply c =
    let fault = c.in_err-wires.field-0.0 in
    let e : told c.from_residual.result ≡ Refused (number fault) 0 = search rules in
    e
    ∙ count_refused c.args.text.now (sym c.line_formed.ensures ∙ c.if-not-line_formed.false) c.in_err-wires.ensures.fault
    (c.from.ensures ∙ c.pair.ensures) (numbered fault)

pub returns-in_err-check_gate_lines-clause-reply : goal.returns-in_err-check_gate_lines-clause-reply
returns-in_err-check_gate_lines-clause-reply c =
    let refusal = c.in_err-check_gate_lines.field-0.0 in
    let e : told c.from_residual-in_err-check_gate_lines.result ≡ Refused (number refusal.fault) refusal.place = search rules in
    e
    ∙ count_passed c.args.text.now (sym c.line_formed.ensures ∙ c.if-not-line_formed.false) c.in_ok-wires.ensures.fault
    (c.from.ensures ∙ c.pair.ensures) refl c.in_err-check_gate_lines.ensures

pub returns-clause-reply : goal.returns-clause-reply
returns-clause-reply c =
    count_passed c.args.text.now (sym c.line_formed.ensures ∙ c.if-not-line_formed.false) c.in_ok-wires.ensures.fault
    (c.from.ensures ∙ c.pair.ensures) refl c.in_ok-check_gate_lines.ensures
