-- Document 01, "Weights and rows" and "Faults": sound weights, marks and rows, for n wires.
-- N is the number of rows kept, `size` that of the weights or marks.
use Rattle.std.specs.Prelude.{List, ◌≡◌, ◌<◌, ◌^◌, ℕ, ◌≤◌, get_or, length}
use Rattle.gf2.specs.Selection.{Independent}
use Rattle.circuit.specs.Read.{Reading}

-- w[p]; beyond the list it is 0
abbrev pub weight : List ℕ → ℕ → ℕ
weight w p = get_or w p 0

-- w[p] is 0 to 7, and w[0] and every w[p] from 2^n up are 0
pub record SoundWeights (size n : ℕ) (w : List ℕ) : Type 0 where
  pub long : length w ≡ size
  pub small : (p : ℕ) → weight w p < 8
  pub none : weight w 0 ≡ 0
  pub high : (p : ℕ) → 2 ^ n ≤ p → weight w p ≡ 0

-- the marks of an odd set: no mark above 1, none at 0 or from 2^n up
pub record SoundMarks (size n : ℕ) (marks : List ℕ) : Type 0 where
  pub long : length marks ≡ size
  pub bits : (p : ℕ) → weight marks p < 2
  pub none : weight marks 0 ≡ 0
  pub high : (p : ℕ) → 2 ^ n ≤ p → weight marks p ≡ 0

-- no bit or row beyond n, and invertible: no combination of rows 0 to n - 1 but the empty one is 0
pub record SoundRows (N n : ℕ) (rows : List ℕ) : Type 0 where
  pub long : length rows ≡ N
  pub within : (i : ℕ) → get_or rows i 0 < 2 ^ n
  pub beyond : (i : ℕ) → n ≤ i → get_or rows i 0 ≡ 0
  pub free : Independent n rows

pub record SoundReading (N n : ℕ) (r : Reading) : Type 0 where
  pub weights : SoundWeights (2 ^ N) n r.weights
  pub rows : SoundRows N n r.rows
