-- One table less another, modulo 8, and the superset sums of that.
use Rattle.std.specs.Prelude.{List, ◌%◌, ◌*◌, ◌+◌, ◌^◌, ℕ, ◌≤◌, length}
use Rattle.circuit.specs.Sound.{weight}
use Rattle.gf2.specs.Over.{Below}
use Rattle.gf2.specs.Table.{tabulate}
use Rattle.sums.specs.Summing.{SumsTo}

-- w less u, modulo 8, at the first k parities: 7 is minus one
unfoldable pub difference : ℕ → List ℕ → List ℕ → List ℕ
difference k w u = tabulate k (λ p. (weight w p + 7 * weight u p) % 8)

-- s holds the superset sums of w less u, on the parities of n wires
abbrev pub DifferenceSums : ℕ → List ℕ → List ℕ → List ℕ → Type 0
DifferenceSums n w u s = SumsTo n (difference (2 ^ n) w u) s

-- ---- what the code takes

-- a table with a place for each parity of n wires, each number below 8
pub record Summable (n : ℕ) (w : List ℕ) : Type 0 where
  pub room : 2 ^ n ≤ length w
  pub small : Below 8 w
