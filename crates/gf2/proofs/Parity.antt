-- Laws of p(x): linear in p and in x.
use mathlib.Core.Path.{ap, sym, ◌∙◌, ◌≡◌}
use Prim.Native.Nat.{◌%◌, ◌*◌, ◌+◌, ◌<◌, ◌^◌, suc, zero, ℕ}
use native.Mathlib.Omega.{arith}
use lib.Bits.{bit_xor}
use Rattle.gf2.proofs.Bit.{bit-lt, bit-pow_other, bit-pow_same, bit-xor}
use Rattle.gf2.proofs.Sum.{sum-add, sum-ext, sum-mod, sum-single}
use Rattle.gf2.specs.Bit.{bit}
use Rattle.gf2.specs.Parity.{parity}

pub parity-lt : (n p x : ℕ) → parity n p x < 2
unfolding parity
parity-lt n p x = omega arith

pub parity-comm : (n p x : ℕ) → parity n p x ≡ parity n x p
unfolding parity
parity-comm n p x = ap (λ (s : ℕ). s % 2) (sum-ext n (λ i. bit p i * bit x i) (λ i. bit x i * bit p i) (λ i l. omega arith))

-- the arithmetic of one bit, by the value of the last factor
dist : (a b x : ℕ) → x < 2 → (a + b) % 2 * x % 2 ≡ (a * x + b * x) % 2
dist a b zero h = omega arith
dist a b (suc zero) h = omega arith
dist a b (suc (suc x)) h = absurd (omega arith)

pub parity-xor : (n p q x : ℕ) → parity n (bit_xor p q) x ≡ (parity n p x + parity n q x) % 2
unfolding parity
parity-xor n p q x =
    sum-mod 2 n (λ i. bit (bit_xor p q) i * bit x i) (λ i. bit p i * bit x i + bit q i * bit x i)
    (λ i l. rw (bit-xor p q i) (dist (bit p i) (bit q i) (bit x i) (bit-lt x i)))
    ∙ omega (arith, sum-add n (λ i. bit p i * bit x i) (λ i. bit q i * bit x i))

pub parity-xor_r : (n p x y : ℕ) → parity n p (bit_xor x y) ≡ (parity n p x + parity n p y) % 2
parity-xor_r n p x y = rw (parity-comm n p (bit_xor x y), parity-xor n x y p, parity-comm n x p, parity-comm n y p)

pub parity-pow : (n i x : ℕ) → i < n → parity n (2 ^ i) x ≡ bit x i
unfolding parity
parity-pow n i x h =
    ap (λ (s : ℕ). s % 2) (sum-single n i (λ j. bit (2 ^ i) j * bit x j) h (λ j l k. rw (bit-pow_other i j (λ e. k (sym e))) (omega arith)))
    ∙ rw (bit-pow_same i) (omega (arith, bit-lt x i))
