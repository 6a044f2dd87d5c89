-- No verdict, no line: the writer has what it had.
use Rattle.std.proofs.Common.{List, [], append-nil, length, refl, rules, sym, ◌≤◌, ℕ}
use Rattle.std.specs.Io.KnownBytes.{Appends}
use Rattle.std.specs.Prelude.{None, Option, Some}
use Rattle.text.specs.Limits.{refused_line_bytes}
use Rattle.text.specs.Text.{read_text}
use Rattle.verdict.specs.Verdicts.{VerdictOn}
use Rattle.same.specs.Lines.{LineFor}
use Rattle.same.proofs.Teller.reply_to.Goals as goal

no_bytes : (known : Option (List ℕ)) → Appends known known []
no_bytes None = search rules
no_bytes (Some bytes) = sym (append-nil bytes)

no_line : {first second was left : List ℕ} → refused_line_bytes ≤ length was → VerdictOn (read_text first) (read_text second) was left None
    → LineFor first second []
no_line {was = was} {left = left} room verdict =
    record { was = was; left = left; said = None; room = room; verdict = verdict; stands = refl }

pub returns-in_default-clause-whole : goal.returns-in_default-clause-whole
returns-in_default-clause-whole g c = ([], no_line (search rules) c.in_default.ensures, no_bytes _)

pub returns-in_default-clause-part : goal.returns-in_default-clause-part
returns-in_default-clause-part g c = ([], 0, no_line (search rules) c.in_default.ensures, no_bytes _)
