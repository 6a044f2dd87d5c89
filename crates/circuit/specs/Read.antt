-- Document 01, "Weights and rows": reading a list. N is the number of rows kept, and 2 ^ N that of the weights.
use Rattle.std.specs.Prelude.{Bool, false, true, List, [], ◌∷◌, ◌^◌, ℕ, ltb, get_or, replicate, set}
use Rattle.std.specs.Int.Bits.{bit_xor}
use Rattle.gf2.specs.Table.{add_at, tabulate}
use Rattle.circuit.specs.Gate.{Gate, gate, kind_of}
use Rattle.circuit.specs.Gate.{Kind}
use Rattle.circuit.specs.Gate.{Cnot, Phase, Unknown}

pub record Reading : Type 0 where
  pub weights : List ℕ
  pub rows : List ℕ

-- a reading with other weights, or with other rows, and all else as it was
abbrev pub with_weights : List ℕ → Reading → Reading
with_weights w r = record { weights = w; rows = r.rows }

abbrev pub with_rows : List ℕ → Reading → Reading
with_rows rows r = record { weights = r.weights; rows = rows }

-- the parity that wire i holds
abbrev pub row : Reading → ℕ → ℕ
row r i = get_or r.rows i 0

-- x if the test holds, else y
abbrev pub either : Bool → ℕ → ℕ → ℕ
either true x y = x
either false x y = y

-- wire i starts with parity 2 ^ i; rows from n up are 0
abbrev pub first_row : ℕ → ℕ → ℕ
first_row n i = either (ltb i n) (2 ^ i) 0

unfoldable pub first_rows : ℕ → ℕ → List ℕ
first_rows N n = tabulate N (first_row n)

-- the weights start at 0
unfoldable pub no_weights : ℕ → List ℕ
no_weights N = replicate (2 ^ N) 0

abbrev pub start : ℕ → ℕ → Reading
start N n = record { weights = no_weights N; rows = first_rows N n }

-- a CNOT XORs its control's parity into its target's
abbrev pub join_rows : ℕ → ℕ → List ℕ → List ℕ
join_rows a b rows = set rows b (bit_xor (get_or rows b 0) (get_or rows a 0))

-- a gate's phase is added, modulo 8, at the parity that its wire holds at that gate
unfoldable pub read_kind : Kind → ℕ → ℕ → Reading → Reading
read_kind Cnot a b r = with_rows (join_rows a b r.rows) r
read_kind (Phase v) a b r = with_weights (add_at 8 r.weights (row r a) v) r
read_kind Unknown a b r = r

abbrev pub read_gate : Gate → Reading → Reading
read_gate (gate kind a b) r = read_kind (kind_of kind) a b r

-- the gates in order
unfoldable pub read_from : List Gate → Reading → Reading
read_from [] r = r
read_from (g ∷ gs) r = read_from gs (read_gate g r)

-- the weights and rows of a list
abbrev pub read : ℕ → ℕ → List Gate → Reading
read N n gs = read_from gs (start N n)
