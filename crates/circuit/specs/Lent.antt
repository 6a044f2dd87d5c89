-- What stands in lent buffers: where a reading keeps its weights and rows, and what a call has changed. The mathematics is apart from it.
use Rattle.std.specs.Prelude.{List, ◌++◌, ◌≡◌, ◌*◌, ◌+◌, ℕ, drop, length, take}
use Rattle.circuit.specs.Gate.{Gate, gates_of}
use Rattle.circuit.specs.Limits.{gate_bytes, max_wires}
use Rattle.circuit.specs.Read.{Reading, read}

-- ---- weights and rows

-- the weights of a reading as they are lent: w[p] at p
abbrev pub weights_lent : Reading → List ℕ
weights_lent r = r.weights

-- its rows as they are lent: row i at i
abbrev pub rows_lent : Reading → List ℕ
rows_lent r = r.rows

-- the reading that lent weights and lent rows say
abbrev pub reading_lent : List ℕ → List ℕ → Reading
reading_lent weights rows = record { weights = weights; rows = rows }

-- the weights and rows of a list of bytes
abbrev pub read_bytes : ℕ → List ℕ → Reading
read_bytes n bytes = read max_wires n (gates_of bytes)

-- ---- gates

-- the gates at the front of lent bytes, k of them: their bytes, and themselves
abbrev pub front_bytes : ℕ → List ℕ → List ℕ
front_bytes k bytes = take (gate_bytes * k) bytes

abbrev pub front_gates : ℕ → List ℕ → List Gate
front_gates k bytes = gates_of (front_bytes k bytes)

-- ---- what a call has changed

-- these stand from place `at` on; all else is as it was
abbrev pub placed : List ℕ → ℕ → List ℕ → List ℕ
placed was at these = take at was ++ these ++ drop (at + length these) was

-- k numbers were written at the start, and all else is as it was: the buffer is as long, and the same from place k on
pub record KeptFrom (k : ℕ) (was left : List ℕ) : Type 0 where
  pub long : length left ≡ length was
  pub kept : drop k left ≡ drop k was
