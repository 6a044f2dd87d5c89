-- Document 02, 2.2, of the entry `trim`: another call, on the circuit D that a call wrote.
use Rattle.std.specs.Prelude.{List, Ok, Result, ◌≡◌, ℕ}
use Rattle.circuit.specs.Lent.{front_bytes, front_gates, placed}
use Rattle.circuit.specs.declared.faults.Refusal.{Refusal}
use Rattle.trimmed.specs.Again.{TrimmedAgain}
use Rattle.trimmed.specs.declared.Counts.{Counts}
use Rattle.trimmer.specs.Entry.{counts_of}

-- the counts of a trim of D, from those reported with D: D's T gates three times, no move, as many gates
abbrev pub settled : Counts → Counts
settled first = record { tin = first.tout; odd = first.tout; tout = first.tout; moves = 0; gates = first.gates }

-- a call reported `first` and left `left`, with D at its front; a call with the bytes of D, these gates and this log replies r and leaves
-- out' and log'
pub record TrimsAgain (n : ℕ) (first : Counts) (left out log out' log' : List ℕ) (r : Result Counts Refusal) : Type 0 where
  -- no move, the same T count, weights and rows equal to D's
  pub same : TrimmedAgain n (front_gates first.gates left) (front_gates (counts_of r).gates out') first (counts_of r)
  -- the whole reply: done, with these counts
  pub reply : r ≡ Ok (settled first)
  -- D is written once more, byte for byte, and all else stays as it was
  pub out_left : out' ≡ placed out 0 (front_bytes first.gates left)
  pub log_left : log' ≡ log
