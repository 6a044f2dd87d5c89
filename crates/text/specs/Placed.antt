-- Gates put into lent bytes.
use Rattle.std.specs.Prelude.{List, ◌≡◌, ◌*◌, ℕ, length}
use Rattle.circuit.specs.Limits.{gate_bytes}
use Rattle.circuit.specs.Lent.{placed}

-- a function that stores gates from the start of what is lent, three bytes each, and gives back their number
pub record Stores (was bytes left : List ℕ) (count : ℕ) : Type 0 where
  pub counted : gate_bytes * count ≡ length bytes
  pub stored : left ≡ placed was 0 bytes
