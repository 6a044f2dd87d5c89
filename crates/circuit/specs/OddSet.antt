-- Document 01, "Weights and rows": the odd set of weights, as marks; its members, and how many there are.
use Rattle.std.specs.Prelude.{List, map, ◌≡◌, ◌%◌, ℕ, get_or, length}
use Rattle.gf2.specs.Sum.{delta, sum}

-- 1 where w[p] is odd, else 0
unfoldable pub odd_set : List ℕ → List ℕ
odd_set w = map (λ x. x % 2) w

-- members are the parities marked 1
abbrev pub Member : List ℕ → ℕ → Type 0
Member marks p = get_or marks p 0 ≡ 1

-- how many members there are: the size of the odd set
unfoldable pub member_count : List ℕ → ℕ
member_count marks = sum (length marks) (λ p. delta 1 (get_or marks p 0))
