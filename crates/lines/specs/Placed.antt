-- Bytes put into a lent buffer.
use Rattle.std.specs.Prelude.{List, ◌≡◌, ◌+◌, ℕ, length}
use Rattle.circuit.specs.Lent.{placed}

-- a function that writes `bytes` from place `at` on, and gives back the place after them
pub record Writes (was : List ℕ) (at : ℕ) (bytes left : List ℕ) (next : ℕ) : Type 0 where
  pub onward : next ≡ at + length bytes
  pub written : left ≡ placed was at bytes
