-- The lowest wire of a parity, counted in a machine word that is wider than the parity.
use mathlib.Core.Logic.{◌≢◌}
use mathlib.Core.Path.{◌∙◌, ◌≡◌, ap, refl}
use Prim.Native.Nat.{◌%◌, ◌/◌, ◌<◌, ◌^◌, suc, zero, ℕ, ◌≤◌}
use native.Mathlib.Decide.{le_ind}
use native.Mathlib.Nat.{lt_of_lt_of_le}
use native.Mathlib.Omega.{arith}
use lib.Count.{count_trailing_zeros, under}
use lib.Pow.{pow_mono}

-- one bit more above a number that is not 0 changes nothing
trailing_more : (k p : ℕ) → p ≢ 0 → p < 2 ^ k → count_trailing_zeros (suc k) p ≡ count_trailing_zeros k p
unfolding count_trailing_zeros
trailing_more zero p ne l = absurd (omega arith)
trailing_more (suc k) p ne l = go (p % 2) refl (trailing_more k (p / 2))
  where
    go : (c : ℕ) → p % 2 ≡ c → (p / 2 ≢ 0 → p / 2 < 2 ^ k → count_trailing_zeros (suc k) (p / 2) ≡ count_trailing_zeros k (p / 2))
        → under c (count_trailing_zeros (suc k) (p / 2)) ≡ under c (count_trailing_zeros k (p / 2))
    go zero e r = ap suc (r (omega arith) (omega arith))
    go (suc c) e r = refl

-- of n bits, in a word of w
pub trailing_in : (w n p : ℕ) → n ≤ w → p ≢ 0 → p < 2 ^ n → count_trailing_zeros w p ≡ count_trailing_zeros n p
trailing_in w n p h ne l =
    le_ind (λ (m : ℕ). count_trailing_zeros m p ≡ count_trailing_zeros n p) refl
    (λ m k e. trailing_more m p ne (lt_of_lt_of_le l (pow_mono k)) ∙ e) w h
