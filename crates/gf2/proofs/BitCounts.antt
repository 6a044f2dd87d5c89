-- Bits flipped, none set from a place on, and how many are set.
use mathlib.Core.Logic.{◌≢◌}
use mathlib.Core.Path.{sym, ◌∙◌, ◌≡◌}
use Prim.Native.Nat.{◌%◌, ◌*◌, ◌+◌, ◌<◌, ◌^◌, suc, zero, ℕ, ◌≤◌}
use native.Mathlib.Decide.{dec_lt}
use native.Mathlib.Nat.{add-suc, add-zero}
use native.Mathlib.Omega.{arith}
use lib.Bits.{bit_xor}
use lib.Pow.{pow-lt}
use Rattle.gf2.proofs.Bit.{bit-lt, bit-pow_other, bit-pow_same, bit-xor}
use Rattle.gf2.proofs.Leading.{bit-top}
use Rattle.gf2.proofs.Sum.{sum-add, sum-const, sum-ext, sum-le, sum-scale, sum-swap, sum-xor}
use Rattle.gf2.specs.Bit.{bit}
use Rattle.gf2.specs.Sum.{sum}

-- ---- one bit flipped

pub flip_same : (p t : ℕ) → bit (bit_xor p (2 ^ t)) t ≡ (bit p t + 1) % 2
flip_same p t = rw (bit-xor p (2 ^ t) t, bit-pow_same t)

pub flip_other : (p t i : ℕ) → i ≢ t → bit (bit_xor p (2 ^ t)) i ≡ bit p i
flip_other p t i ne = rw (bit-xor p (2 ^ t) i, bit-pow_other t i (λ e. ne (sym e))) (omega (arith, bit-lt p i))

-- ---- no bits from r on: below 2 ^ r

pub bits_below : (k r m : ℕ) → m < 2 ^ (r + k) → ((b : ℕ) → r ≤ b → b < r + k → bit m b ≡ 0) → m < 2 ^ r
bits_below zero r m l h = rw (add-zero r) at l
bits_below (suc k) r m l h = bits_below k r m (go (dec_lt m (2 ^ (r + k)))) (λ b a c. h b a (omega arith))
  where
    go : Dec (m < 2 ^ (r + k)) → m < 2 ^ (r + k)
    go (yes g) = g
    go (no g) = absurd (omega (arith, bit-top (r + k) m (omega arith) (rw (add-suc r k) at l), h (r + k) (omega arith) (omega arith)))

-- ---- how many are set

-- at most one for each place
pub bits_at_most : (n : ℕ) (u : ℕ → ℕ) → ((i : ℕ) → u i < 2) → sum n u ≤ n
bits_at_most n u h = omega (arith, sum-le n u (λ i. 1) (λ i l. at (u i) (h i)), sum-const n 1)
  where
    at : (x : ℕ) → x < 2 → x ≤ 1
    at x h = omega arith

-- half of the numbers below 2 ^ n have bit i
pub half_have : (n i : ℕ) → i < n → 2 * sum (2 ^ n) (λ p. bit p i) ≡ 2 ^ n
half_have n i h =
    omega (
      arith,
      sum-xor n (2 ^ i) (λ p. bit p i) (pow-lt h),
      sum-add (2 ^ n) (λ p. bit p i) (λ p. bit (bit_xor p (2 ^ i)) i),
      sum-ext (2 ^ n) (λ p. bit p i + bit (bit_xor p (2 ^ i)) i) (λ p. 1) (λ p l. one p),
      sum-const (2 ^ n) 1,
    )
  where
    one : (p : ℕ) → bit p i + bit (bit_xor p (2 ^ i)) i ≡ 1
    one p = omega (arith, flip_same p i, bit-lt p i)

-- twice the bits of all numbers below 2 ^ n: n times 2 ^ n
pub bits_total : (n : ℕ) → sum (2 ^ n) (λ p. 2 * sum n (λ i. bit p i)) ≡ n * 2 ^ n
bits_total n =
    sum-ext (2 ^ n) (λ p. 2 * sum n (λ i. bit p i)) (λ p. sum n (λ i. 2 * bit p i)) (λ p l. sym (sum-scale n 2 (λ i. bit p i)))
    ∙ sum-swap (2 ^ n) n (λ p i. 2 * bit p i)
    ∙ sum-ext n (λ i. sum (2 ^ n) (λ p. 2 * bit p i)) (λ i. 2 ^ n) (λ i l. sum-scale (2 ^ n) 2 (λ p. bit p i) ∙ half_have n i l)
    ∙ sum-const n (2 ^ n)
