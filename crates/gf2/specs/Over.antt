-- Sums and xors over the numbers of a list.
use Rattle.std.specs.Prelude.{List, [], ◌∷◌, ◌+◌, ◌<◌, ℕ, get_or, length}
use Rattle.std.specs.Int.Bits.{bit_xor}

-- f y summed over the y of a list
unfoldable pub sum_over : (ℕ → ℕ) → List ℕ → ℕ
sum_over f [] = 0
sum_over f (y ∷ ys) = f y + sum_over f ys

-- the xor of all numbers of a list
unfoldable pub xor_all : List ℕ → ℕ
xor_all [] = 0
xor_all (y ∷ ys) = bit_xor y (xor_all ys)

-- every number of a list is below b
abbrev pub Below : ℕ → List ℕ → Type 0
Below b ys = (i : ℕ) → i < length ys → get_or ys i 0 < b
