-- The new weights as the code finds them: by the superset sums s of the weights w less the marks u, modulo 8.
use Rattle.std.specs.Prelude.{List, ◌≡◌, ◌%◌, ◌*◌, ◌+◌, ◌<◌, ◌^◌, ℕ, ◌≤◌, length}
use Rattle.std.specs.Int.Count.{ones}
use Rattle.circuit.specs.Sound.{weight}
use Rattle.gf2.specs.Sum.{sum}
use Rattle.phase.specs.NewWeights.{apart, by_wires}

-- ---- the rests, by the sums

-- on two wires, whose sum is x: q is minus x, modulo 4
abbrev pub pair_by : ℕ → ℕ
pair_by x = 3 * (3 * x % 4)

-- on the parity p of one wire, of n: l is the sum, and the rests of the pairs with that wire are taken away
abbrev pub one_by : ℕ → List ℕ → ℕ → ℕ
one_by n s p = (weight s p + 7 * sum n (λ j. apart p (2 ^ j) * pair_by (weight s (p + 2 ^ j)))) % 8

-- on p: one wire, two, or none
abbrev pub rest_by : ℕ → List ℕ → ℕ → ℕ
rest_by n s p = by_wires (ones p) (one_by n s p) (pair_by (weight s p))

-- no rest is more than this
abbrev pub most_rest : ℕ
most_rest = 3 * 3

-- ---- what it leaves

-- out' is out with the rests of the parities below k added, modulo 8
pub record RestsTo (n : ℕ) (s : List ℕ) (k : ℕ) (out out' : List ℕ) : Type 0 where
  pub as_long : length out' ≡ length out
  pub added : (p : ℕ) → p < k → weight out' p ≡ (weight out p + rest_by n s p) % 8
  pub onward : (p : ℕ) → k ≤ p → weight out' p ≡ weight out p
