-- Document 02, 2.2, of the text form: the printed n and gates of an earlier reply, given as a text.
use Rattle.std.specs.Prelude.{List, Ok, Result, ◌++◌, ◌≡◌, ◌+◌, ℕ, drop, length, take}
use Rattle.circuit.specs.Gate.{Gate}
use Rattle.circuit.specs.Lent.{placed}
use Rattle.circuit.specs.declared.faults.Refusal.{Refusal}
use Rattle.text.specs.Limits.{counts_line_bytes, wires_line_bytes}
use Rattle.text.specs.Written.{counts_line, gate_lines, wires_line}
use Rattle.trimmed.specs.Again.{TrimmedAgain}
use Rattle.answer.specs.Printed.{PrintsTrim}

-- n and the gates of a reply: all of it but its second line, that of the counts
abbrev pub without_counts : List ℕ → List ℕ
without_counts printed = take wires_line_bytes printed ++ drop (wires_line_bytes + counts_line_bytes) printed

-- for the circuit C `printed` was printed, and for the n and the gates of that `again`
pub record PrintsAgain (n : ℕ) (C : List Gate) (printed again : List ℕ) : Type 0 where
  pub first : PrintsTrim n C printed
  pub second : PrintsTrim n first.D again
  -- no move, the same T count, and gates that read as the same weights and rows
  pub same : TrimmedAgain n first.D second.D first.counts second.counts
  -- so the line of counts is T out, T out, T out, 0; and the other lines are as they were
  pub lines : again ≡ wires_line n ++ counts_line first.counts.tout first.counts.tout first.counts.tout 0 ++ gate_lines first.D

-- `answer`, called with n and the gates of what was printed for C and with these lent bytes, replies r and leaves out'
pub record AnswersAgain (n : ℕ) (C : List Gate) (printed out out' : List ℕ) (r : Result ℕ Refusal) : Type 0 where
  pub again : List ℕ
  pub prints : PrintsAgain n C printed again
  -- as many bytes, from the start of those lent, and all else as it was
  pub reply : r ≡ Ok (length printed)
  pub out_left : out' ≡ placed out 0 again
