-- The XOR of selected numbers: a combination of a list of vectors over GF(2).
use Rattle.std.specs.Prelude.{List, [], ◌∷◌, ◌≢◌, ◌%◌, ◌*◌, ◌/◌, ◌<◌, ◌^◌, ℕ}
use Rattle.std.specs.Int.Bits.{bit_xor}

-- the xor of those numbers of a list whose places s names, bit 0 of s for the first
unfoldable pub combine : ℕ → List ℕ → ℕ
combine s [] = 0
combine s (y ∷ ys) = bit_xor (s % 2 * y) (combine (s / 2) ys)

-- every combination of the first n numbers but the empty one differs from 0
abbrev pub Independent : ℕ → List ℕ → Type 0
Independent n ys = (s : ℕ) → s ≢ 0 → s < 2 ^ n → combine s ys ≢ 0
