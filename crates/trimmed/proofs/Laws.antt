-- The page to read: what follows from demand 3's statement alone, so of every trim that keeps it.
use mathlib.Core.List.{List}
use Prim.Native.Nat.{ℕ}
use Rattle.circuit.specs.Gate.{Gate}
use Rattle.trimmed.proofs.Again.{trimmed_again}
use Rattle.trimmed.specs.Again.{TrimmedAgain}
use Rattle.trimmed.specs.Trimmed.{Trimmed}
use Rattle.trimmed.specs.declared.Counts.{Counts}

-- document 02, 2.2: for every n and every C, if D is a trim of C and E a trim of D, whichever trims they are, then the second makes no
-- move, reports the same T count, and E reads as exactly the weights and rows that D reads as
pub trimming_again : (n : ℕ) (C D E : List Gate) (log log' : List ℕ) (first again : Counts)
    → Trimmed n C D log first → Trimmed n D E log' again → TrimmedAgain n D E first again
trimming_again = trimmed_again
