-- The highest bit of a number that is set, the lowest, and the next from a bit on.
use mathlib.Core.Logic.{◌≢◌}
use mathlib.Core.Path.{◌∙◌, ◌≡◌, ap, ap₂, refl, sym}
use Prim.Native.Nat.{◌%◌, ◌*◌, ◌+◌, ◌-◌, ◌/◌, ◌<◌, ◌^◌, ◌≤◌, suc, zero, ℕ}
use native.Mathlib.Decide.{dec_lt}
use native.Mathlib.Nat.{lt_of_lt_of_le, zero-mul}
use native.Mathlib.Omega.{arith}
use lib.Arith.{digits_div}
use lib.Bits.{bit_xor, xor_block, xor_lt}
use lib.Count.{count_trailing_zeros, under}
use lib.Pow.{pow_mono, shr-shr}
use Rattle.gf2.proofs.Bit.{bit_high, bit-suc, bit-xor, bit-zero}
use Rattle.gf2.specs.Bit.{NextBit, bit}

-- the top bit of a number below 2 ^ (k + 1)
pub bit-top : (k a : ℕ) → 2 ^ k ≤ a → a < 2 ^ suc k → bit a k ≡ 1
unfolding bit
bit-top k a l h = ap (λ (n : ℕ). n % 2) (ap (λ (n : ℕ). n / 2 ^ k) apart ∙ digits_div 1 {m = 2 ^ k} {r = a - 2 ^ k} (omega arith))
  where
    apart : a ≡ 1 * 2 ^ k + (a - 2 ^ k)
    apart = omega arith

-- two numbers with the same top bit: it goes
pub xor_top : (k a b : ℕ) → 2 ^ k ≤ a → a < 2 ^ suc k → 2 ^ k ≤ b → b < 2 ^ suc k → bit_xor a b < 2 ^ k
xor_top k a b la ha lb hb =
    rw (ap₂ bit_xor (apart a la) (apart b lb), xor_block k 1 1 (a - 2 ^ k) (b - 2 ^ k) (omega arith) (omega arith), zero-mul (2 ^ k))
    (omega (arith, xor_lt k (a - 2 ^ k) (b - 2 ^ k) (omega arith) (omega arith)))
  where
    apart : (x : ℕ) → 2 ^ k ≤ x → x ≡ 1 * 2 ^ k + (x - 2 ^ k)
    apart x l = omega arith

-- only one of two has the top bit: it stays
pub xor_lead : (k a b : ℕ) → a < 2 ^ k → 2 ^ k ≤ b → b < 2 ^ suc k → 2 ^ k ≤ bit_xor a b
xor_lead k a b la lb hb = go (dec_lt (bit_xor a b) (2 ^ k))
  where
    go : Dec (bit_xor a b < 2 ^ k) → 2 ^ k ≤ bit_xor a b
    go (yes l) =
        let z : ◌≡◌ {A = ℕ} 0 1 = sym (bit_high k (bit_xor a b) l) ∙ bit-xor a b k ∙ rw (bit_high k a la, bit-top k b lb hb) refl in
        absurd (omega arith)
    go (no n) = omega arith

-- a bit that is set lies below any bound
pub bit-inside : (n p t : ℕ) → p < 2 ^ n → bit p t ≡ 1 → t < n
bit-inside n p t l e = go (dec_lt t n)
  where
    go : Dec (t < n) → t < n
    go (yes h) = h
    go (no g) = absurd (omega (arith, bit_high t p (lt_of_lt_of_le l (pow_mono (omega arith)))))

-- a bit from n up is not set
pub bit-beyond : (n p t : ℕ) → p < 2 ^ n → n ≤ t → bit p t ≡ 0
bit-beyond n p t l h = bit_high t p (lt_of_lt_of_le l (pow_mono h))

-- the lowest bit that is set
pub bit-lowest : (k p : ℕ) → p ≢ 0 → p < 2 ^ k → bit p (count_trailing_zeros k p) ≡ 1
unfolding count_trailing_zeros
bit-lowest zero p ne l = absurd (omega arith)
bit-lowest (suc k) p ne l = go (p % 2) refl (omega arith) (bit-lowest k (p / 2))
  where
    go : (c : ℕ) → p % 2 ≡ c → c < 2 → (p / 2 ≢ 0 → p / 2 < 2 ^ k → bit (p / 2) (count_trailing_zeros k (p / 2)) ≡ 1)
        → bit p (under c (count_trailing_zeros k (p / 2))) ≡ 1
    go zero e h r = bit-suc p (count_trailing_zeros k (p / 2)) ∙ r (omega arith) (omega arith)
    go (suc zero) e h r = bit-zero p ∙ e
    go (suc (suc c)) e h r = absurd (omega arith)

-- of n bits, counted in a word of w
pub lowest_set : (w n p : ℕ) → n ≤ w → p ≢ 0 → p < 2 ^ n → (count_trailing_zeros w p < n) × (bit p (count_trailing_zeros w p) ≡ 1)
lowest_set w n p h ne l =
    let e : bit p (count_trailing_zeros w p) ≡ 1 = bit-lowest w p ne (lt_of_lt_of_le l (pow_mono h)) in
    (bit-inside n p (count_trailing_zeros w p) l e, e)

-- ---- the zeros below the lowest of k bits that is set, as they are counted

pub bit-counted : (k p : ℕ) → count_trailing_zeros k p < k → bit p (count_trailing_zeros k p) ≡ 1
unfolding count_trailing_zeros
bit-counted zero p l = absurd (omega arith)
bit-counted (suc k) p l = go (p % 2) refl l (bit-counted k (p / 2))
  where
    go : (c : ℕ) → p % 2 ≡ c → under c (count_trailing_zeros k (p / 2)) < suc k
        → (count_trailing_zeros k (p / 2) < k → bit (p / 2) (count_trailing_zeros k (p / 2)) ≡ 1)
        → bit p (under c (count_trailing_zeros k (p / 2))) ≡ 1
    go zero e h r = bit-suc p (count_trailing_zeros k (p / 2)) ∙ r (omega arith)
    go (suc zero) e h r = bit-zero p ∙ e
    go (suc (suc c)) e h r = absurd (omega arith)

pub bit-under : (k p i : ℕ) → i < count_trailing_zeros k p → bit p i ≡ 0
unfolding count_trailing_zeros
bit-under zero p i l = absurd (omega arith)
bit-under (suc k) p i l = go (p % 2) refl i l (bit-under k (p / 2))
  where
    go : (c : ℕ) → p % 2 ≡ c → (i : ℕ) → i < under c (count_trailing_zeros k (p / 2))
        → ((j : ℕ) → j < count_trailing_zeros k (p / 2) → bit (p / 2) j ≡ 0) → bit p i ≡ 0
    go zero e zero h r = bit-zero p ∙ e
    go zero e (suc i) h r = bit-suc p i ∙ r i (omega arith)
    go (suc c) e i h r = absurd (omega arith)

-- the bits of a number from s on
pub bit-from : (p s i : ℕ) → bit (p / 2 ^ s) i ≡ bit p (s + i)
unfolding bit
bit-from p s i = ap (λ (x : ℕ). x % 2) (shr-shr p s i)

-- the next bit that is set, by the count of the zeros before it in a word of w bits
pub next_bit : (N w m s : ℕ) → N ≤ w → NextBit N m s (s + count_trailing_zeros w (m / 2 ^ s))
next_bit N w m s wide =
    record {
      from = omega arith;
      passed =
          λ j g l.
          let e : j ≡ s + (j - s) = omega arith in
          ap (bit m) e ∙ sym (bit-from m s (j - s)) ∙ bit-under w (m / 2 ^ s) (j - s) (omega arith);
      on = λ l. sym (bit-from m s (count_trailing_zeros w (m / 2 ^ s))) ∙ bit-counted w (m / 2 ^ s) (omega arith);
    }

-- where none is set below N, N stands for it
pub next_none : {N m k r : ℕ} → NextBit N m k r → k ≤ N → N ≤ r → NextBit N m k N
next_none n inside past =
    record { from = inside; passed = λ j g l. n.passed j g (omega arith); on = λ l. absurd (omega arith) }
