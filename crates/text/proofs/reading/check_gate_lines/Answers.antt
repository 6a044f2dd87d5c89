-- The gate lines passed have the form: the first fault of the rest is that of all.
use mathlib.Core.Path.{◌∙◌, ◌≡◌, sym}
use native.Mathlib.Omega.{arith}
use borrow.Author.Rules.{rules}
use Rattle.circuit.specs.Faults.{list_length}
use Rattle.circuit.specs.Replies.{Refused}
use Rattle.circuit.specs.Told.{number}
use Rattle.text.proofs.TextFaults.{all_passed, cut, line_passed, line_too_many, line_wrong, none_passed}
use Rattle.text.proofs.reading.check_gate_lines.Goals as goal

pub loop-i-init : goal.loop-i-init
loop-i-init c =
    rw (c.into_iter-i-iterator.ensures.into_iter_gives, c.enumerate-i-items.ensures.source, c.enumerate-i-items.ensures.count)
    (none_passed c.args.lines.now c.chunks.ensures.size c.chunks.ensures.rest)

pub returns-then-i-eq-MAX_GATES : goal.returns-then-i-eq-MAX_GATES
returns-then-i-eq-MAX_GATES c =
    let h = c.in-Some.ensures.steps in
    let e : Refused (number c.from.result.fault) c.from.result.place ≡ Refused list_length 0 = search rules in
    e ∙ line_too_many c.loop-i.invariant (cut h.0.1) (omega (arith, h.1))

pub returns-then-not-line_formed : goal.returns-then-not-line_formed
returns-then-not-line_formed c =
    let h = c.in-Some.ensures.steps in
    rw h.1
    (line_wrong c.loop-i.invariant (cut h.0.1) (omega (arith, h.1)) (sym c.line_formed.ensures ∙ c.if-not-line_formed.true))

pub loop-i-preserved : goal.loop-i-preserved
loop-i-preserved c =
    let h = c.in-Some.ensures.steps in
    rw h.2
    (line_passed c.loop-i.invariant (cut h.0.1) h.0.0 (omega (arith, h.1)) (sym c.line_formed.ensures ∙ c.if-not-line_formed.false))

pub returns : goal.returns
returns c = all_passed c.loop-i.invariant c.in-None.ensures.steps.0.1.0
