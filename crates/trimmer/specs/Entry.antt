-- The entry `trim`: its reply, and what it leaves in the lent gates and the lent log, for sound and faulty arguments alike.
use Rattle.std.specs.Prelude.{Err, List, Ok, Result, ◌≡◌, ◌*◌, ◌≤◌, suc, zero, ℕ, length}
use Rattle.circuit.specs.Faults.{Accepted, list_reply, or_else, short_fault}
use Rattle.circuit.specs.Gate.{Gate, gates_of}
use Rattle.circuit.specs.Lent.{KeptFrom, front_gates}
use Rattle.circuit.specs.Limits.{gate_bytes, log_cells, max_wires, move_cells, parities, write_bytes}
use Rattle.circuit.specs.Read.{Reading, read, with_weights}
use Rattle.circuit.specs.Replies.{Reply, number_of}
use Rattle.circuit.specs.Told.{told}
use Rattle.circuit.specs.declared.faults.Refusal.{Refusal}
use Rattle.phase.specs.NewWeights.{new_weights}
use Rattle.trimmed.specs.Trimmed.{Trimmed, odd_set_of, weights_of}
use Rattle.trimmed.specs.declared.Counts.{Counts}
use Rattle.written.specs.Chosen.{chosen}
use Rattle.written.specs.Wrote.{Wrote}

-- ---- the reply

-- all counts 0
abbrev pub no_counts : Counts
no_counts = record { tin = 0; odd = 0; tout = 0; moves = 0; gates = 0 }

-- the counts, all 0 where it refused
abbrev pub counts_of : Result Counts Refusal → Counts
counts_of (Ok counts) = counts
counts_of (Err refusal) = no_counts

-- 8, by the lengths of the gates lent and of the log lent
abbrev pub trim_lent : ℕ → ℕ → ℕ
trim_lent out log = or_else (short_fault out write_bytes) (short_fault log log_cells)

-- the first fault, from what goes in alone: 1, 2, 8, then 3, 4, 5 by gate; nothing else is refused
abbrev pub verdict : ℕ → List ℕ → ℕ → ℕ → Reply
verdict n bytes out log = list_reply n bytes (trim_lent out log)

-- ---- the buffers lent

-- an accepted C, and outputs that are long enough
pub record Trimmable (n : ℕ) (bytes out log : List ℕ) : Type 0 where
  pub accepted : Accepted n bytes
  pub out_room : write_bytes ≤ length out
  pub log_room : log_cells ≤ length log

-- some wire, and outputs that are long enough
pub record TrimInto (n : ℕ) (out log : List ℕ) : Type 0 where
  pub some : 1 ≤ n
  pub out_room : write_bytes ≤ length out
  pub log_room : log_cells ≤ length log

-- what D is written for: the new weights and the rows of C
abbrev pub to_write : ℕ → List Gate → List Gate → Reading
to_write n C D = with_weights (new_weights parities n (weights_of n C) (odd_set_of n D)) (read max_wires n C)

-- D is written for them, as any list is
abbrev pub WritesFor : ℕ → List Gate → List Gate → Type 0
WritesFor n C D = Wrote max_wires n (to_write n C D) D

-- and depends on them alone: the list is the one chosen for them
abbrev pub ChosenFor : ℕ → List Gate → List Gate → Type 0
ChosenFor n C D = D ≡ chosen max_wires n (to_write n C D)

-- an accepted C is trimmed
pub record DoneWith (n : ℕ) (bytes out log out' log' : List ℕ) (counts : Counts) : Type 0 where
  -- D is as many gates at the front of what is lent as are reported: the count says where D ends, `gates_kept` that nothing is written
  -- behind it
  pub trimmed : Trimmed n (gates_of bytes) (front_gates counts.gates out') log' counts
  -- each weight in its spelling, no Z, and at most n * 2^n + n * n gates
  pub written : WritesFor n (gates_of bytes) (front_gates counts.gates out')
  -- equal n, weights and rows to write give equal lists
  pub alone : ChosenFor n (gates_of bytes) (front_gates counts.gates out')
  -- bytes after the last gate, and cells after the last move, stay untouched
  pub gates_kept : KeptFrom (gate_bytes * counts.gates) out out'
  pub log_kept : KeptFrom (move_cells * counts.moves) log log'

-- the lent gates and the lent log after a reply of that number and these counts: D and its log; or as they were
abbrev pub TrimLeft : ℕ → Counts → ℕ → List ℕ → List ℕ → List ℕ → List ℕ → List ℕ → Type 0
TrimLeft zero counts n bytes out log out' log' = DoneWith n bytes out log out' log' counts
TrimLeft (suc fault) counts n bytes out log out' log' = (out' ≡ out) × (log' ≡ log)

-- `trim`, called with the bytes of C, these gates and this log, replies r and leaves out' and log'
pub record TrimList (n : ℕ) (bytes out log out' log' : List ℕ) (r : Result Counts Refusal) : Type 0 where
  pub reply : told r ≡ verdict n bytes (length out) (length log)
  pub left : TrimLeft (number_of (told r)) (counts_of r) n bytes out log out' log'
