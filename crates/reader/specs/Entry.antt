-- The entry `read`: its reply and what it leaves in the lent buffers, for sound and faulty arguments alike.
use Rattle.std.specs.Prelude.{List, ◌≡◌, ◌<◌, ℕ, get_or, length}
use Rattle.circuit.specs.Faults.{lent_fault, list_reply, or_else}
use Rattle.circuit.specs.Gate.{gates_of, t_gates}
use Rattle.circuit.specs.Lent.{read_bytes, reading_lent, rows_lent, weights_lent}
use Rattle.circuit.specs.Limits.{parities, row_cells, table_bytes}
use Rattle.circuit.specs.Read.{Reading}
use Rattle.circuit.specs.Replies.{after, number_of}
use Rattle.circuit.specs.Replies.{Reply}
use Rattle.reader.specs.declared.reading.ListRead.{ListRead}

-- the weights and rows that the code keeps of a list are a reading
abbrev pub reading_of : ListRead → Reading
reading_of t = reading_lent t.weights t.rows

-- a list as the code has read it
pub record ReadAll (n : ℕ) (bytes : List ℕ) (t : ListRead) : Type 0 where
  -- its weights and rows
  pub reads : reading_of t ≡ read_bytes n bytes
  -- how many T and T dagger gates it holds
  pub t_counted : t.tcount ≡ t_gates (gates_of bytes)

-- 8, by the lengths of the weights and the rows lent
abbrev pub read_lent : ℕ → ℕ → ℕ
read_lent weights rows = or_else (lent_fault weights table_bytes) (lent_fault rows row_cells)

-- the reply, from what goes in alone: 1, 2, 8, then 3, 4, 5 by gate
abbrev pub read_reply : ℕ → List ℕ → ℕ → ℕ → Reply
read_reply n bytes weights rows = list_reply n bytes (read_lent weights rows)

-- weights to which phase v can be added at parity p, which is its place
pub record Addable (weights : List ℕ) (p v : ℕ) : Type 0 where
  pub inside : p < parities
  pub small : get_or weights p 0 < 8
  pub phase : v < 8

-- the weights and rows of a list stand in what is lent
pub record ReadOut (n : ℕ) (bytes weights rows : List ℕ) : Type 0 where
  pub weights_are : weights ≡ weights_lent (read_bytes n bytes)
  pub rows_are : rows ≡ rows_lent (read_bytes n bytes)

-- `read`, called with these bytes, weights and rows, replies r and leaves weights' and rows'
pub record ReadList (n : ℕ) (bytes weights rows weights' rows' : List ℕ) (r : Reply) : Type 0 where
  pub reply : r ≡ read_reply n bytes (length weights) (length rows)
  pub weights_left : weights' ≡ after (number_of r) (weights_lent (read_bytes n bytes)) weights
  pub rows_left : rows' ≡ after (number_of r) (rows_lent (read_bytes n bytes)) rows
