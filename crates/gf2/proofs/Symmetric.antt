-- The sums e1, e2 and e3 of bits, of their products by two and by three: the parity of the bits is e1 + 6 e2 + 4 e3, modulo 8.
use mathlib.Core.Logic.{inl, inr, ◌⊎◌}
use mathlib.Core.Path.{refl, sym, ◌∙◌, ◌≡◌}
use Prim.Native.Nat.{◌%◌, ◌*◌, ◌+◌, ◌/◌, ◌<◌, suc, zero, ℕ}
use native.Mathlib.Nat.{le_refl}
use native.Mathlib.Omega.{arith}
use Rattle.gf2.proofs.Bit.{bit-values}
use Rattle.gf2.proofs.Modular.{is_mod}
use Rattle.gf2.specs.Sum.{sum}

-- the sum over i < j < n of b i * b j
unfoldable pub e2 : ℕ → (ℕ → ℕ) → ℕ
e2 n b = sum n (λ j. sum j b * b j)

-- the sum over i < j < k < n of b i * b j * b k
unfoldable pub e3 : ℕ → (ℕ → ℕ) → ℕ
e3 n b = sum n (λ k. e2 k b * b k)

-- the arithmetic of one more bit, by its value; where that is 1, by the even-or-odd of s
step2 : (s t x : ℕ) → x < 2 → (s % 2 ≡ 0) ⊎ (s % 2 ≡ 1) → s % 2 ≡ (s + 2 * t) % 4 → (s + x) % 2 ≡ (s + x + 2 * (t + s * x)) % 4
step2 s t zero h c e = omega arith
step2 s t (suc zero) h (inl c) e =
    is_mod 2 (s / 2) 1 _ (omega arith) (omega arith) ∙ sym (is_mod 4 (s / 2 + (s + 2 * t) / 4) 1 _ (omega arith) (omega arith))
step2 s t (suc zero) h (inr c) e =
    is_mod 2 (s / 2 + 1) 0 _ (omega arith) (omega arith) ∙ sym (is_mod 4 (s / 2 + (s + 2 * t) / 4 + 1) 0 _ (omega arith) (omega arith))
step2 s t (suc (suc x)) h c e = absurd (omega arith)

step3 : (s t u x : ℕ) → x < 2 → (s % 2 ≡ 0) ⊎ (s % 2 ≡ 1) → s % 2 ≡ (s + 2 * t) % 4 → s % 2 ≡ (s + 6 * t + 4 * u) % 8
    → (s + x) % 2 ≡ (s + x + 6 * (t + s * x) + 4 * (u + t * x)) % 8
step3 s t u zero h c e i = omega arith
step3 s t u (suc zero) h (inl c) e i =
    is_mod 2 (s / 2) 1 _ (omega arith) (omega arith)
    ∙ sym (is_mod 8 (s / 2 + (s + 2 * t) / 4 + (s + 6 * t + 4 * u) / 8) 1 _ (omega arith) (omega arith))
step3 s t u (suc zero) h (inr c) e i =
    is_mod 2 (s / 2 + 1) 0 _ (omega arith) (omega arith)
    ∙ sym (is_mod 8 (s / 2 + (s + 2 * t) / 4 + (s + 6 * t + 4 * u) / 8 + 1) 0 _ (omega arith) (omega arith))
step3 s t u (suc (suc x)) h c e i = absurd (omega arith)

even_or_odd : (s : ℕ) → (s % 2 ≡ 0) ⊎ (s % 2 ≡ 1)
even_or_odd s = bit-values (s % 2) (omega arith)

module _ (b : ℕ → ℕ) where
  pub parity-modulo_4 : (n : ℕ) → ((i : ℕ) → i < n → b i < 2) → sum n b % 2 ≡ (sum n b + 2 * e2 n b) % 4
  unfolding sum e2
  parity-modulo_4 zero h = refl
  parity-modulo_4 (suc n) h =
      step2 (sum n b) (e2 n b) (b n) (h n (le_refl _)) (even_or_odd (sum n b)) (parity-modulo_4 n (λ i l. h i (omega arith)))

  pub parity-modulo_8 : (n : ℕ) → ((i : ℕ) → i < n → b i < 2) → sum n b % 2 ≡ (sum n b + 6 * e2 n b + 4 * e3 n b) % 8
  unfolding sum e2 e3
  parity-modulo_8 zero h = refl
  parity-modulo_8 (suc n) h =
      step3 (sum n b) (e2 n b) (e3 n b) (b n) (h n (le_refl _)) (even_or_odd (sum n b)) (parity-modulo_4 n (λ i l. h i (omega arith)))
      (parity-modulo_8 n (λ i l. h i (omega arith)))
