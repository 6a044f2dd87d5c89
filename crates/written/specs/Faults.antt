-- Document 01, "Faults": number 7, of rows, and the checks of a call that writes a list: 1, 8, 6, 7. A fault's number is that of the table;
-- 0 stands for none.
use Rattle.std.specs.Prelude.{List, [], ◌∷◌, ◌≡◌, ◌-◌, ◌<◌, ◌^◌, ◌≤◌, suc, zero, ℕ, eqb, leb, ltb, get_or, length}
use Rattle.gf2.specs.Selection.{combine}
use Rattle.circuit.specs.Faults.{or_else, row_rule, short_fault}
use Rattle.circuit.specs.Limits.{max_wires, parities, row_cells, write_bytes}
use Rattle.circuit.specs.Read.{either}
use Rattle.circuit.specs.Sound.{SoundRows, SoundWeights}
use Rattle.circuit.specs.TableFaults.{call_fault, weights_fault}

-- none of faults 1, 8, 6 and 7: the wire count, the bytes of the gates lent, the weights, the rows
pub record Writable (n : ℕ) (weights rows : List ℕ) (gates : ℕ) : Type 0 where
  pub some : 1 ≤ n
  pub few : n ≤ max_wires
  pub room : write_bytes ≤ gates
  pub weights_sound : SoundWeights parities n weights
  pub rows_sound : SoundRows max_wires n rows

-- what is sound of N rows but their being invertible
pub record Shaped (N n : ℕ) (rows : List ℕ) : Type 0 where
  pub long : length rows ≡ N
  pub within : (i : ℕ) → get_or rows i 0 < 2 ^ n
  pub beyond : (i : ℕ) → n ≤ i → get_or rows i 0 ≡ 0

-- ---- the same, computed

-- the most that row i may be: no bit beyond n, and 0 from row n on
abbrev pub row_most : ℕ → ℕ → ℕ
row_most n i = either (ltb i n) (2 ^ n - 1) 0

-- the rows, the first of which is row i
unfoldable pub beyond_fault : ℕ → ℕ → List ℕ → ℕ
beyond_fault n i [] = 0
beyond_fault n i (row ∷ rows) = either (leb row (row_most n i)) (beyond_fault n (suc i) rows) row_rule

-- a combination of rows, that of a mask from 1 to k, is 0
unfoldable pub cancel_fault : ℕ → List ℕ → ℕ
cancel_fault zero rows = 0
cancel_fault (suc k) rows = either (eqb (combine (suc k) rows) 0) row_rule (cancel_fault k rows)

-- N rows, for n wires: their number, then bits and rows beyond n, then every combination of rows 0 to n - 1 but the empty one
unfoldable pub rows_fault : ℕ → ℕ → List ℕ → ℕ
rows_fault N n rows = either (eqb (length rows) N) (or_else (beyond_fault n 0 rows) (cancel_fault (2 ^ n - 1) rows)) row_rule

-- 1, 8, 6, then 7, by the weights, the rows and the length of the gates lent
unfoldable pub write_fault : ℕ → List ℕ → List ℕ → ℕ → ℕ
write_fault n weights rows gates =
    or_else (call_fault n (short_fault gates write_bytes) (weights_fault n weights)) (rows_fault row_cells n rows)
