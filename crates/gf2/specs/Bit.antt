-- Bits of a number, bit 0 the lowest.
use Rattle.std.specs.Prelude.{◌≡◌, ◌%◌, ◌/◌, ◌<◌, ◌^◌, ◌≤◌, ℕ}

-- bit i of p, 0 or 1. Shut, so that a proof takes a bit as one unknown below 2
unfoldable pub bit : ℕ → ℕ → ℕ
bit p i = (p / 2 ^ i) % 2

-- of N bits, r is the first from s on that is set in m; where none is, r is N or more
pub record NextBit (N m s r : ℕ) : Type 0 where
  pub from : s ≤ r
  pub passed : (j : ℕ) → s ≤ j → j < r → bit m j ≡ 0
  pub on : r < N → bit m r ≡ 1
