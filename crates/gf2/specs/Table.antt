-- Tables of numbers, as lists: made from a function, summed with coefficients, and changed at one place.
use Rattle.std.specs.Prelude.{List, [], ◌∷◌, ◌%◌, ◌*◌, ◌+◌, suc, zero, ℕ, get_or, length, set}
use Rattle.gf2.specs.Sum.{sum}

-- the list f 0, .. , f (k - 1)
unfoldable pub tabulate : ℕ → (ℕ → ℕ) → List ℕ
tabulate zero f = []
tabulate (suc k) f = f 0 ∷ tabulate k (λ i. f (suc i))

-- the sum over the places p of w of w[p] times c p
unfoldable pub weighted_sum : List ℕ → (ℕ → ℕ) → ℕ
weighted_sum w c = sum (length w) (λ p. get_or w p 0 * c p)

-- v added to w[q], modulo m
abbrev pub add_at : ℕ → List ℕ → ℕ → ℕ → List ℕ
add_at m w q v = set w q ((get_or w q 0 + v) % m)
