-- The newline at its place, and digits before it.
use mathlib.Core.Path.{◌∙◌, sym}
use native.Mathlib.Omega.{arith}
use borrow.Author.Rules.{rules}
use borrow.Author.Tests.{ltb-true, tests}
use Rattle.std.proofs.lemmas.Iterator.{YieldsList-from_slice}
use Rattle.std.proofs.lemmas.Iterator.Search.{all_from_yields_List}
use Rattle.text.proofs.LineForms.{all_digits, not_ended, too_short}
use Rattle.text.specs.Hex.{is_digit}
use Rattle.text.proofs.reading.line_formed.Goals as goal
use Rattle.text.proofs.reading.line_formed.Goals.{else-text-digits, then-text-digits}

pub returns-then-text-digits-eq-NEWLINE : goal.returns-then-text-digits-eq-NEWLINE
returns-then-text-digits-eq-NEWLINE c =
    elim c.if-text-digits.branch [
      | then-text-digits w ↦
          all_from_yields_List is_digit _ _ c.all.result c.all.ensures.ran (YieldsList-from_slice _ cc) (λ x b q k. search (rules, tests))
          ∙ all_digits c.args.text.now c.args.digits w.if-text-digits.true (sym w.value-is ∙ c.if-text-digits-eq-NEWLINE.true)
      | else-text-digits w ↦
          absurd (omega (arith, ltb-true c.args.digits _ (sym w.value-is ∙ c.if-text-digits-eq-NEWLINE.true)))
    ]

pub returns-else-text-digits-eq-NEWLINE : goal.returns-else-text-digits-eq-NEWLINE
returns-else-text-digits-eq-NEWLINE c =
    elim c.if-text-digits.branch [
      | then-text-digits w ↦
          c.if-text-digits-eq-NEWLINE.false
          ∙ not_ended c.args.text.now c.args.digits w.if-text-digits.true (sym w.value-is ∙ c.if-text-digits-eq-NEWLINE.false)
      | else-text-digits w ↦ c.if-text-digits-eq-NEWLINE.false ∙ too_short c.args.text.now c.args.digits w.if-text-digits.false
    ]
