-- One law for each way out of the functions of this crate: what the text reader and the trim reply, and what is printed for it.
use mathlib.Core.List.{List}
use mathlib.Core.Logic.{◌≢◌}
use mathlib.Core.Path.{◌∙◌, ◌≡◌, ap, refl, subst, sym}
use Prim.Native.Nat.{◌*◌, ◌<◌, ◌≤◌, ℕ}
use native.Mathlib.Decide.{dec_le}
use native.Mathlib.Omega.{arith}
use lib.ListN.{length, length-take, take}
use borrow.Author.Tests.{lt-leb}
use Rattle.std.specs.Prelude.{Err, Ok, Result}
use Rattle.circuit.proofs.Judging.{or_well, passes_list_call, short_well}
use Rattle.circuit.specs.Faults.{first_fault, lent_output, list_call_fault, refuse, short_fault}
use Rattle.circuit.specs.Gate.{gates_of}
use Rattle.circuit.specs.Lent.{front_gates}
use Rattle.circuit.specs.Limits.{gate_bytes, log_cells, max_list_bytes, write_bytes}
use Rattle.circuit.specs.Replies.{Done, Reply, number_of}
use Rattle.circuit.specs.Told.{number, told}
use Rattle.circuit.specs.declared.faults.Refusal.{Refusal}
use Rattle.text.proofs.TextLaws.{circuit_said, fault_said_lem}
use Rattle.text.specs.Entry.{ReadText}
use Rattle.text.specs.Limits.{reply_bytes}
use Rattle.lines.specs.Placed.{Writes}
use Rattle.text.specs.Text.{Sayable, Text, circuit, read_text}
use Rattle.text.specs.Written.{refused_line}
use Rattle.text.specs.declared.Circuit.{Circuit}
use Rattle.trimmed.specs.declared.Counts.{Counts}
use Rattle.trimmer.proofs.Laws.{counted as bytes_counted}
use Rattle.trimmer.specs.Entry.{DoneWith, TrimLeft, TrimList, counts_of, trim_lent, verdict}
use Rattle.answer.specs.Entry.{WritesPrinted}
use Rattle.answer.specs.Printed.{PrintsGates, trim_lines}

-- ---- the trim of a circuit that a text says, with room lent for D and the log

-- such a circuit, and what is lent
pub record Lent (n : ℕ) (g list log : List ℕ) : Type 0 where
  pub said : Sayable n g
  pub room : write_bytes ≤ length list
  pub log_room : log_cells ≤ length log

pub lends : {n : ℕ} {g list log : List ℕ} → Sayable n g → write_bytes ≤ length list → log_cells ≤ length log → Lent n g list log
lends said room log_room = record { said = said; room = room; log_room = log_room }

module _ {n : ℕ} {g list log : List ℕ} (lent : Lent n g list log) where
  -- it is judged by its gates alone
  no_fault : list_call_fault n (length g) (trim_lent (length list) (length log)) ≡ 0
  no_fault =
      passes_list_call n (length g) _ lent.said.some lent.said.few lent.said.whole lent.said.short
      (or_well _ _ (short_well (length list) write_bytes lent.room) (short_well (length log) log_cells lent.log_room))

  judged : verdict n g (length list) (length log) ≡ first_fault n 0 (gates_of g)
  judged = ap (λ (f : ℕ). refuse f 0 (first_fault n 0 (gates_of g))) no_fault

  module _ {list' log' : List ℕ} {r : Result Counts Refusal} (t : TrimList n g list log list' log' r) where
    by_gates : told r ≡ first_fault n 0 (gates_of g)
    by_gates = t.reply ∙ judged

    module _ {counts : Counts} (is : r ≡ Ok counts) where
      done : (first_fault n 0 (gates_of g) ≡ Done) × DoneWith n g list log list' log' counts
      done = (
        sym by_gates ∙ ap told is,
        subst (λ (x : Result Counts Refusal). TrimLeft (number_of (told x)) (counts_of x) n g list log list' log') is t.left,
      )

      -- D stands within what was lent
      pub gates_within : gate_bytes * counts.gates ≤ length list
      gates_within =
          let d = done.1 in
          omega (arith, bytes_counted d, length-take (gate_bytes * counts.gates) list', d.gates_kept.long)

      pub gates_left : gate_bytes * counts.gates ≤ length list'
      gates_left = omega (arith, gates_within, done.1.gates_kept.long)

      -- and takes just the bytes counted
      pub counted : gate_bytes * counts.gates ≡ length (take (gate_bytes * counts.gates) list')
      counted = sym (bytes_counted done.1)

      pub trim_printed : {was left : List ℕ} {next : ℕ} → Writes was 0 (trim_lines n counts (front_gates counts.gates list')) left next
          → WritesPrinted (circuit n g) was left next
      trim_printed w =
          let D = front_gates counts.gates list' in (
            trim_lines n counts D,
            subst (λ (v : Reply). PrintsGates v n (gates_of g) (trim_lines n counts D)) (sym done.0)
                (record {
                  D = D;
                  log = log';
                  counts = counts;
                  trimmed = done.1.trimmed;
                  written = done.1.written;
                  alone = done.1.alone;
                  lines = refl;
                }),
            w,
          )

    pub gate_printed : {refusal : Refusal} {line was left : List ℕ} {next : ℕ} → r ≡ Err refusal
        → line ≡ refused_line (number refusal.fault) refusal.place → Writes was 0 line left next → WritesPrinted (circuit n g) was left next
    gate_printed {refusal} {line} is e w = (
      line,
      subst (λ (v : Reply). PrintsGates v n (gates_of g) line) (sym (ap told is) ∙ by_gates) e,
      w,
    )

-- ---- the text, read with room lent for every list

module _ {t gates gates' : List ℕ} {r : Result Circuit Refusal} (p : ReadText t gates gates' r) {was left : List ℕ} {next : ℕ} where
  pub circuit_printed : {c : Circuit} → r ≡ Ok c → WritesPrinted (circuit c.wires (take (gate_bytes * c.gates) gates')) was left next
      → WritesPrinted (read_text t) was left next
  circuit_printed is w = subst (λ (x : Text). WritesPrinted x was left next) (sym (circuit_said p is).says) w

  pub fault_printed : {refusal : Refusal} {line : List ℕ} → max_list_bytes ≤ length gates → r ≡ Err refusal
      → line ≡ refused_line (number refusal.fault) refusal.place → Writes was 0 line left next → WritesPrinted (read_text t) was left next
  fault_printed {refusal} {line} room is e w =
      subst (λ (x : Text). WritesPrinted x was left next) (sym (fault_said_lem p room is)) (line, e, w)

-- ---- the entry

-- the check gives a fault only where there is too little room, and then 8
pub little_room : (lent : ℕ) {f : ℕ} → f ≡ short_fault lent reply_bytes → f ≢ 0 → (lent < reply_bytes) × (f ≡ lent_output)
little_room lent {f} e h = go (dec_le reply_bytes lent)
  where
    go : Dec (reply_bytes ≤ lent) → (lent < reply_bytes) × (f ≡ lent_output)
    go (yes l) = absurd (h (e ∙ short_well lent reply_bytes l))
    go (no l) = (omega arith, e ∙ simp (lt-leb reply_bytes lent (omega arith)))
