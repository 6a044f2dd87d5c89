-- Sums over the numbers below a bound.
use Rattle.std.specs.Prelude.{◌+◌, suc, zero, ℕ}

-- f 0 + .. + f (k - 1). Shut: at a large numeral it must not unfold
unfoldable pub sum : ℕ → (ℕ → ℕ) → ℕ
sum zero f = 0
sum (suc k) f = sum k f + f k

-- 1 where p is a, else 0
unfoldable pub delta : ℕ → ℕ → ℕ
delta zero zero = 1
delta zero (suc p) = 0
delta (suc a) zero = 0
delta (suc a) (suc p) = delta a p
