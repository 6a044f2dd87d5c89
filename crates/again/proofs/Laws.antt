-- The page to read: document 02, 2.2, of the entries. What one call wrote or printed is given to another.
use mathlib.Core.List.{List}
use mathlib.Core.Path.{◌∙◌, ◌≡◌, ap, subst}
use Prim.Native.Nat.{◌≤◌, ℕ}
use lib.ListN.{length, take}
use Rattle.std.specs.Prelude.{Ok, Result}
use Rattle.circuit.specs.Faults.{Accepted, AllWellFormed}
use Rattle.circuit.specs.Gate.{gates_of}
use Rattle.circuit.specs.Lent.{front_bytes}
use Rattle.circuit.specs.Limits.{log_cells, write_bytes}
use Rattle.circuit.specs.declared.faults.Refusal.{Refusal}
use Rattle.compare.proofs.Laws.{same_exactly}
use Rattle.compare.specs.Entry.{ComparesLists}
use Rattle.compare.specs.declared.Compared.{Compared}
use Rattle.compare.specs.declared.Compared.TheVariants.{Same}
use Rattle.text.proofs.TextLaws.{accepted_is_written}
use Rattle.text.specs.Limits.{reply_bytes}
use Rattle.text.specs.Text.{Text, circuit, read_text}
use Rattle.trimmer.proofs.Laws.{done_exactly, done_writes}
use Rattle.trimmer.specs.Entry.{TrimList, Trimmable, counts_of}
use Rattle.trimmed.specs.declared.Counts.{Counts}
use Rattle.answer.proofs.AnswerLaws.{done_prints}
use Rattle.answer.specs.Entry.{AnswerText}
use Rattle.answer.specs.Printed.{Prints, PrintsTrim}
use Rattle.again.proofs.AnsweredTwice.{answered, trim_of}
use Rattle.again.proofs.TrimmedTwice.{accepted_again, counts_settled, no_log, same, written_again}
use Rattle.again.specs.Calls.{TrimsAgain}
use Rattle.again.specs.Texts.{AnswersAgain, without_counts}

-- ---- `trim`: the circuit that was written

module _ (n : ℕ) (bytes out log out' log' : List ℕ) (r : Result Counts Refusal) (h : TrimList n bytes out log out' log' r)
    (t : Trimmable n bytes out log) where
  -- it has none of faults 1 to 5, and is short enough to be read
  pub written_is_accepted : Accepted n (front_bytes (counts_of r).gates out')
  written_is_accepted = accepted_again (done_writes n bytes out log out' log' r h t) t.accepted

  -- so another call with it and long enough outputs, whatever they hold, is done: no move, the same T count, the same weights and rows, and
  -- even the same bytes
  pub trims_again : (out₂ log₂ out₂' log₂' : List ℕ) (again : Result Counts Refusal) → write_bytes ≤ length out₂ → log_cells ≤ length log₂
      → TrimList n (front_bytes (counts_of r).gates out') out₂ log₂ out₂' log₂' again
      → TrimsAgain n (counts_of r) out' out₂ log₂ out₂' log₂' again
  trims_again out₂ log₂ out₂' log₂' again out_room log_room h₂ =
      let may : Trimmable n (front_bytes (counts_of r).gates out') out₂ log₂ =
      record { accepted = written_is_accepted; out_room = out_room; log_room = log_room } in
      let d = done_writes n bytes out log out' log' r h t in
      let e = done_writes n (front_bytes (counts_of r).gates out') out₂ log₂ out₂' log₂' again h₂ may in
      let done = ((done_exactly n (front_bytes (counts_of r).gates out') out₂ log₂ out₂' log₂' again h₂).1 may).done in
      record {
        same = same d e;
        reply = done ∙ ap Ok (counts_settled d e);
        out_left = written_again d e;
        log_left = no_log d e;
      }

  -- and compared with the circuit that was trimmed it is the same (document 02, 2.1)
  pub compares_same : (c : Result Compared Refusal) → ComparesLists n bytes (front_bytes (counts_of r).gates out') c → c ≡ Ok Same
  compares_same c d =
      (same_exactly d).1 (t.accepted, written_is_accepted, (done_writes n bytes out log out' log' r h t).trimmed.acts)

-- ---- `answer`: the n and the gates that were printed for a text that is a circuit without a fault

-- they are answered with the same lines, but for the line of counts, which is T out, T out, T out, 0
pub answers_again : (t out out' : List ℕ) (count : ℕ) → AnswerText t out out' (Ok count)
    → (n : ℕ) (list : List ℕ) → read_text t ≡ circuit n list → AllWellFormed n (gates_of list)
    → (out₂ out₂' : List ℕ) (r : Result ℕ Refusal) → reply_bytes ≤ length out₂ → AnswerText (without_counts (take count out')) out₂ out₂' r
    → AnswersAgain n (gates_of list) (take count out') out₂ out₂' r
answers_again t out out' count a n list says formed out₂ out₂' r room b =
    let said = (accepted_is_written t n list says).0 in
    let first : PrintsTrim n (gates_of list) (take count out') =
    trim_of formed (subst (λ (x : Text). Prints x (take count out')) says (done_prints t out out' count a).prints) in
    answered n list said (take count out') first out₂ out₂' r room b
