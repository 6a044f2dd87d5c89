-- Counting under the involution p ↦ p xor z: what falls on every pair p, p xor z, and by two on one of them, falls in all by two.
use mathlib.Core.Logic.{◌≢◌}
use mathlib.Core.Path.{◌∙◌, ◌≡◌, ap, sym}
use Prim.Native.Nat.{◌*◌, ◌+◌, ◌-◌, ◌<◌, ◌^◌, ◌≤◌, ℕ}
use native.Mathlib.Decide.{ℕ_discrete}
use native.Mathlib.Omega.{arith}
use lib.Bits.{bit_xor, xor_comm, xor_lt, xor_self, xor_zero_l}
use Rattle.gf2.proofs.Sum.{delta-other, delta-same, sum-add, sum-append, sum-ext, sum-le, sum-scale, sum-single, sum-xor, sum-zero}
use Rattle.gf2.proofs.Xor.{xor_cancel}
use Rattle.gf2.specs.Sum.{delta, sum}

pub xor_nonzero : (a z : ℕ) → z ≢ 0 → bit_xor a z ≢ a
xor_nonzero a z h e = h (sym (xor_cancel z a) ∙ ap (λ (x : ℕ). bit_xor x a) (xor_comm z a ∙ e) ∙ xor_self a)

-- equal where the xor is 0
pub xor_equal : (a b : ℕ) → bit_xor a b ≡ 0 → a ≡ b
xor_equal a b e = sym (xor_cancel a b) ∙ ap (λ (x : ℕ). bit_xor x b) e ∙ xor_zero_l b

pub sum-delta : (m a : ℕ) → a < m → sum m (delta a) ≡ 1
sum-delta m a h = sum-single m a (delta a) h (λ p l ne. delta-other a p ne) ∙ delta-same a

-- a sum whose terms are 0 from a on
pub sum-stop : (a b : ℕ) (f : ℕ → ℕ) → a ≤ b → ((p : ℕ) → a ≤ p → f p ≡ 0) → sum b f ≡ sum a f
sum-stop a b f l h =
    ap (λ (n : ℕ). sum n f) (apart a b l) ∙ sum-append a (b - a) f
    ∙ omega (arith, sum-ext (b - a) (λ i. f (a + i)) (λ i. 0) (λ i k. h (a + i) (omega arith)), sum-zero (b - a))
  where
    apart : (a b : ℕ) → a ≤ b → b ≡ a + (b - a)
    apart a b l = omega arith

-- termwise below, and by two at two places
sum-gap : (m a b : ℕ) (f g : ℕ → ℕ) → a < m → b < m → a ≢ b → ((p : ℕ) → p < m → f p ≤ g p) → f a + 2 ≤ g a → f b + 2 ≤ g b
    → sum m f + 4 ≤ sum m g
sum-gap m a b f g ha hb ne h la lb =
    omega (
      arith,
      sum-le m (λ p. f p + (2 * delta a p + 2 * delta b p)) g (λ p l. at p l (ℕ_discrete p a) (ℕ_discrete p b)),
      sum-add m f (λ p. 2 * delta a p + 2 * delta b p),
      sum-add m (λ p. 2 * delta a p) (λ p. 2 * delta b p),
      sum-scale m 2 (delta a),
      sum-scale m 2 (delta b),
      sum-delta m a ha,
      sum-delta m b hb,
    )
  where
    at : (p : ℕ) → p < m → Dec (p ≡ a) → Dec (p ≡ b) → f p + (2 * delta a p + 2 * delta b p) ≤ g p
    at p l (yes e) (yes e') = absurd (ne (sym e ∙ e'))
    at p l (yes e) (no n) = rw (delta-other b p n, e, delta-same a) (omega arith)
    at p l (no n) (yes e) = rw (delta-other a p n, e, delta-same b) (omega arith)
    at p l (no n) (no n') = rw (delta-other a p n, delta-other b p n') (omega (arith, h p l))

-- every p stands in two pairs
twice : (k z : ℕ) (m : ℕ → ℕ) → z < 2 ^ k → sum (2 ^ k) (λ p. m p + m (bit_xor p z)) ≡ 2 * sum (2 ^ k) m
twice k z m h = omega (arith, sum-add (2 ^ k) m (λ p. m (bit_xor p z)), sum-xor k z m h)

pub pairs_drop : (k z a : ℕ) (m m' : ℕ → ℕ) → z < 2 ^ k → z ≢ 0 → a < 2 ^ k
    → ((p : ℕ) → p < 2 ^ k → m' p + m' (bit_xor p z) ≤ m p + m (bit_xor p z))
    → m' a + m' (bit_xor a z) + 2 ≤ m a + m (bit_xor a z)
    → sum (2 ^ k) m' + 2 ≤ sum (2 ^ k) m
pairs_drop k z a m m' hz nz ha le strict =
    let b : ℕ = bit_xor a z in
    let back : bit_xor b z ≡ a = xor_cancel a z in
    omega (
      arith,
      twice k z m hz,
      twice k z m' hz,
      sum-gap (2 ^ k) a b (λ p. m' p + m' (bit_xor p z)) (λ p. m p + m (bit_xor p z)) ha (xor_lt k a z ha hz)
          (λ e. xor_nonzero a z nz (sym e)) le strict
          (rw back (omega arith)),
    )
