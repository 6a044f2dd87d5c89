-- Document 02, 2.1: what the program `same` prints for two texts, and which of them standard error then names.
use Rattle.std.specs.Prelude.{Err, List, None, Ok, Option, Result, Some, cond, ◌≢◌, ◌≡◌, ℕ, eqb, length}
use Rattle.circuit.specs.Faults.{second_list}
use Rattle.circuit.specs.Lent.{placed}
use Rattle.circuit.specs.Told.{number}
use Rattle.circuit.specs.declared.faults.Refusal.{Refusal}
use Rattle.compare.specs.Entry.{ComparesLists}
use Rattle.compare.specs.declared.Compared.{Compared}
use Rattle.compare.specs.declared.Compared.TheVariants.{Differ, Same}
use Rattle.text.specs.Text.{Text, circuit, faulty}
use Rattle.text.specs.Written.{differ_line, refused_line, same_line}
use Rattle.verdict.specs.declared.Verdict.{Verdict}
use Rattle.verdict.specs.declared.Which.{Which}
use Rattle.verdict.specs.declared.Which.TheVariants.{First, Second}

-- the line for a reply of `compare`
abbrev pub line_of : Result Compared Refusal → List ℕ
line_of (Ok Same) = same_line
line_of (Ok Differ) = differ_line
line_of (Err refusal) = refused_line (number refusal.fault) refusal.place

-- how many bytes the line has, 0 where there is none
abbrev pub bytes_of : Option Verdict → ℕ
bytes_of None = 0
bytes_of (Some v) = v.bytes

-- the list that has a fault of that number
abbrev pub at_fault : ℕ → Which
at_fault number = cond (eqb number second_list) Second First

-- what is named beside the line for a reply
abbrev pub named_of : Result Compared Refusal → Option Which
named_of (Ok compared) = None
named_of (Err refusal) = Some (at_fault (number refusal.fault))

-- the line stands at the start of what was lent, the rest is as it was, and v tells how many bytes it has and what is named beside it
pub record Prints (line : List ℕ) (named : Option Which) (was left : List ℕ) (v : Option Verdict) : Type 0 where
  pub tells : v ≡ Some (record { bytes = length line; refused = named })
  pub stands : left ≡ placed was 0 line

-- two lists on the same wires: the line for what `compare` replies, with all that its promise says
pub record PrintsReply (n : ℕ) (first second was left : List ℕ) (v : Option Verdict) : Type 0 where
  pub reply : Result Compared Refusal
  pub compared : ComparesLists n first second reply
  pub prints : Prints (line_of reply) (named_of reply) was left v

-- two texts, t and u: the fault of the first, else that of the second, else what their circuits give
pub data VerdictOn : (t u : Text) (was left : List ℕ) → Option Verdict → Type 0 where
  first_faulty : {number place : ℕ} {u : Text} {was left : List ℕ} {v : Option Verdict}
      → Prints (refused_line number place) (Some First) was left v → VerdictOn (faulty number place) u was left v
  second_faulty : {n number place : ℕ} {first was left : List ℕ} {v : Option Verdict}
      → Prints (refused_line number place) (Some Second) was left v → VerdictOn (circuit n first) (faulty number place) was left v
  -- nothing is printed for circuits on different wire counts
  other_wires : {n m : ℕ} {first second was : List ℕ} → n ≢ m
      → VerdictOn (circuit n first) (circuit m second) was was None
  compared : {n : ℕ} {first second was left : List ℕ} {v : Option Verdict} → PrintsReply n first second was left v
      → VerdictOn (circuit n first) (circuit n second) was left v
