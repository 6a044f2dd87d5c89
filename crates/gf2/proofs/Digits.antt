-- A number made of its bits.
use mathlib.Core.Path.{ap, sym, ◌∙◌, ◌≡◌}
use Prim.Native.Nat.{◌%◌, ◌*◌, ◌+◌, ◌<◌, ◌^◌, suc, zero, ℕ}
use native.Mathlib.Decide.{ℕ_discrete}
use native.Mathlib.Nat.{add_comm}
use native.Mathlib.Omega.{arith}
use lib.Bits.{xor_comm, xor_shifted}
use Rattle.gf2.proofs.Bit.{bit_high, bit-pow_other, bit-pow_same, bit-scale, bit-xor}
use Rattle.gf2.specs.Bit.{bit}
use Rattle.gf2.specs.Sum.{sum}

-- one bit more on top
bit-on_top : (n s c i : ℕ) → s < 2 ^ n → c < 2 → bit (s + c * 2 ^ n) i ≡ (bit s i + c * bit (2 ^ n) i) % 2
bit-on_top n s c i l h =
    ap (λ (y : ℕ). bit y i) (sym (xor_comm s (c * 2 ^ n) ∙ xor_shifted c n s l ∙ add_comm (c * 2 ^ n) s))
    ∙ bit-xor s (c * 2 ^ n) i ∙ ap (λ (y : ℕ). (bit s i + y) % 2) (bit-scale c (2 ^ n) i h)

module _ (b : ℕ → ℕ) (bits : (i : ℕ) → b i < 2) where
  pub digits_lt : (n : ℕ) → sum n (λ i. b i * 2 ^ i) < 2 ^ n
  unfolding sum
  digits_lt zero = omega arith
  digits_lt (suc n) = top (b n) (bits n) (sum n (λ i. b i * 2 ^ i)) (digits_lt n)
    where
      top : (c : ℕ) → c < 2 → (s : ℕ) → s < 2 ^ n → s + c * 2 ^ n < 2 ^ suc n
      top zero h s l = omega arith
      top (suc zero) h s l = omega arith
      top (suc (suc c)) h s l = absurd (omega arith)

  pub bit-digits : (n i : ℕ) → i < n → bit (sum n (λ i. b i * 2 ^ i)) i ≡ b i
  unfolding sum
  bit-digits zero i l = absurd (omega arith)
  bit-digits (suc n) i l = go (ℕ_discrete n i) (λ h. bit-digits n i h)
    where
      s : ℕ
      s = sum n (λ i. b i * 2 ^ i)

      go : Dec (n ≡ i) → (i < n → bit (sum n (λ i. b i * 2 ^ i)) i ≡ b i) → bit (sum n (λ i. b i * 2 ^ i) + b n * 2 ^ n) i ≡ b i
      go (yes e) r =
          rw (
            ← e,
            bit-on_top n (sum n (λ i. b i * 2 ^ i)) (b n) n (digits_lt n) (bits n),
            bit_high n (sum n (λ i. b i * 2 ^ i)) (digits_lt n),
            bit-pow_same n,
          )
          (omega (arith, bits n))
      go (no ne) r =
          rw (bit-on_top n (sum n (λ i. b i * 2 ^ i)) (b n) i (digits_lt n) (bits n), bit-pow_other n i ne, r (omega arith))
          (omega (arith, bits i))
