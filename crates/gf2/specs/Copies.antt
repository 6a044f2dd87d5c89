-- All products of two bits of a number at once: copies of it side by side, and copies one place further apart, where both have a bit.
use Rattle.std.specs.Prelude.{◌*◌, ◌+◌, ◌/◌, ◌^◌, ℕ}
use Rattle.std.specs.Int.Bits.{bit_and}
use Rattle.gf2.specs.Sum.{sum}

-- so many copies of x, `apart` places from one to the next
unfoldable pub copies : ℕ → ℕ → ℕ → ℕ
copies apart count x = x * sum count (λ k. 2 ^ (apart * k))

-- for x of n bits: copies one place further apart than it has bits
abbrev pub spaced : ℕ → ℕ → ℕ
spaced n x = copies (n + 1) (n / 2 + 1) x

-- and copies side by side
abbrev pub close : ℕ → ℕ → ℕ
close n x = copies n (n / 2 + 2) x

-- at place (n + 1)·k + i stands the product of bits i and i + k of x, or, where i + k is n or more, of i and i + k - n; k goes to n/2, so
-- that each two bits meet
unfoldable pub pairs : ℕ → ℕ → ℕ
pairs n x = bit_and (spaced n x) (close n x)
