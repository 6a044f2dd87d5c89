-- The rows are filled from the front with their first parities.
use mathlib.Core.Path.{◌≡◌}
use Prim.Native.Nat.{◌<◌, ℕ}
use lib.ListN.{get_or}
use Rattle.circuit.specs.Read.{first_row}
use Rattle.reader.proofs.reading.first_rows.Given as goal

abbrev pub invariant-loop-i : goal.invariant-loop-i
invariant-loop-i l = (k : ℕ) → k < l.i → get_or l.row-items k 0 ≡ first_row l.n k
