-- A list written for weights and rows. Which CNOTs are used, and the order of parities, are free (document 01, "The new weights"), and so
-- is the number of gates: the record says what holds of them.
use Rattle.std.specs.Prelude.{List, ◌≢◌, ◌≡◌, ◌≤◌, ℕ, length}
use Rattle.circuit.specs.Faults.{AllWellFormed}
use Rattle.circuit.specs.Gate.{Gate, Z, kind_of, t_gates}
use Rattle.circuit.specs.Limits.{written_gates}
use Rattle.circuit.specs.OddSet.{member_count, odd_set}
use Rattle.circuit.specs.Read.{Reading, read, start}
use Rattle.circuit.specs.Sound.{weight}
use Rattle.circuit.specs.Gate.{Phase}
use Rattle.written.specs.Spelling.{Together, gates_of_kind, kinds_at, spelled_gates, spelling}

-- a list of gates written for the reading r on n wires, of N at most
pub record Wrote (N n : ℕ) (r : Reading) (gs : List Gate) : Type 0 where
  -- no gate has a fault
  pub formed : AllWellFormed n gs
  -- reading it gives exactly these weights and rows
  pub reads : read N n gs ≡ r
  -- at most n * 2^n gates for the weights and n * n for the rows
  pub short : length gs ≤ written_gates n
  -- the gates that add their phase at p are, in order, those that spell p's weight
  pub spelled : (p : ℕ) → kinds_at p gs (start N n) ≡ spelling (weight r.weights p)
  -- and stand next to each other, on one wire that holds p
  pub together : (p : ℕ) → weight r.weights p ≢ 0 → Together p (weight r.weights p) gs (start N n)
  -- so there are as many gates of each kind of phase gate as the spellings of all weights have
  pub kinds : (kind v : ℕ) → kind_of kind ≡ Phase v → gates_of_kind kind gs ≡ spelled_gates kind r.weights
  -- and as many T and T dagger gates as the odd set has members
  pub t_counted : t_gates gs ≡ member_count (odd_set r.weights)
  -- and no Z
  pub no_z : gates_of_kind Z gs ≡ 0
