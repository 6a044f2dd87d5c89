-- A weighted sum of parities, modulo 8, by the weighted sums over the parities with one wire, with two and with three (its moments).
-- W are the weights of M parities.
use mathlib.Core.Path.{ap, sym, ◌∙◌, ◌≡◌}
use Prim.Native.Nat.{◌%◌, ◌*◌, ◌+◌, ℕ}
use native.Mathlib.Nat.{mul_comm}
use native.Mathlib.Omega.{arith}
use Rattle.gf2.proofs.Bit.{bit-lt, mul_lt}
use Rattle.gf2.proofs.Modular.{mul_mod_r}
use Rattle.gf2.proofs.Sum.{sum-add, sum-ext, sum-mod, sum-scale, sum-swap}
use Rattle.gf2.proofs.Symmetric.{e2, e3, parity-modulo_8}
use Rattle.gf2.specs.Bit.{bit}
use Rattle.gf2.specs.Parity.{parity}
use Rattle.gf2.specs.Sum.{sum}

sum-scale_r : (k c : ℕ) (f : ℕ → ℕ) → sum k f * c ≡ sum k (λ i. f i * c)
sum-scale_r k c f = mul_comm (sum k f) c ∙ sym (sum-scale k c f) ∙ sum-ext k (λ i. c * f i) (λ i. f i * c) (λ i l. mul_comm c (f i))

-- e2 and e3 as nested sums of products
e2_nest : (n : ℕ) (b : ℕ → ℕ) → e2 n b ≡ sum n (λ j. sum j (λ i. b i * b j))
unfolding e2
e2_nest n b = sum-ext n (λ j. sum j b * b j) (λ j. sum j (λ i. b i * b j)) (λ j l. sum-scale_r j (b j) b)

e3_nest : (n : ℕ) (b : ℕ → ℕ) → e3 n b ≡ sum n (λ k. sum k (λ j. sum j (λ i. b i * b j * b k)))
unfolding e3
e3_nest n b =
    sum-ext n (λ k. e2 k b * b k) (λ k. sum k (λ j. sum j (λ i. b i * b j * b k)))
    (λ k l. ap (λ (s : ℕ). s * b k) (e2_nest k b) ∙ sum-scale_r k (b k) (λ j. sum j (λ i. b i * b j))
    ∙ sum-ext k (λ j. sum j (λ i. b i * b j) * b k) (λ j. sum j (λ i. b i * b j * b k)) (λ j h. sum-scale_r j (b k) (λ i. b i * b j)))

module _ (M : ℕ) (W : ℕ → ℕ) where
  pull : (n : ℕ) (F : ℕ → ℕ → ℕ) → sum M (λ p. W p * sum n (λ i. F p i)) ≡ sum n (λ i. sum M (λ p. W p * F p i))
  pull n F =
      sum-ext M (λ p. W p * sum n (λ i. F p i)) (λ p. sum n (λ i. W p * F p i)) (λ p l. sym (sum-scale n (W p) (F p)))
      ∙ sum-swap M n (λ p i. W p * F p i)

  -- the moments
  unfoldable pub first_moment : ℕ → ℕ
  first_moment i = sum M (λ p. W p * bit p i)

  unfoldable pub second_moment : ℕ → ℕ → ℕ
  second_moment i j = sum M (λ p. W p * (bit p i * bit p j))

  unfoldable pub third_moment : ℕ → ℕ → ℕ → ℕ
  third_moment i j k = sum M (λ p. W p * (bit p i * bit p j * bit p k))

  unfoldable pub parities : ℕ → ℕ → ℕ
  parities n x = sum M (λ p. W p * parity n p x)

  module _ (n x : ℕ) where
    b : ℕ → ℕ → ℕ
    b p i = bit p i * bit x i

    first : sum M (λ p. W p * sum n (b p)) ≡ sum n (λ i. bit x i * first_moment i)
    unfolding b first_moment
    first =
        pull n b
        ∙ sum-ext n (λ i. sum M (λ p. W p * b p i)) (λ i. bit x i * first_moment i)
        (λ i l. sum-ext M (λ p. W p * b p i) (λ p. bit x i * (W p * bit p i)) (λ p h. omega arith)
        ∙ sum-scale M (bit x i) (λ p. W p * bit p i))

    second : sum M (λ p. W p * e2 n (b p)) ≡ sum n (λ j. sum j (λ i. bit x i * bit x j * second_moment i j))
    unfolding b second_moment
    second =
        sum-ext M (λ p. W p * e2 n (b p)) (λ p. W p * sum n (λ j. sum j (λ i. b p i * b p j)))
        (λ p l. ap (λ (s : ℕ). W p * s) (e2_nest n (b p)))
        ∙ pull n (λ p j. sum j (λ i. b p i * b p j))
        ∙ sum-ext n (λ j. sum M (λ p. W p * sum j (λ i. b p i * b p j))) (λ j. sum j (λ i. bit x i * bit x j * second_moment i j))
        (λ j l. pull j (λ p i. b p i * b p j)
        ∙ sum-ext j (λ i. sum M (λ p. W p * (b p i * b p j))) (λ i. bit x i * bit x j * second_moment i j)
        (λ i h. sum-ext M (λ p. W p * (b p i * b p j)) (λ p. bit x i * bit x j * (W p * (bit p i * bit p j))) (λ p g. omega arith)
        ∙ sum-scale M (bit x i * bit x j) (λ p. W p * (bit p i * bit p j))))

    third : sum M (λ p. W p * e3 n (b p)) ≡ sum n (λ k. sum k (λ j. sum j (λ i. bit x i * bit x j * bit x k * third_moment i j k)))
    unfolding b third_moment
    third =
        sum-ext M (λ p. W p * e3 n (b p)) (λ p. W p * sum n (λ k. sum k (λ j. sum j (λ i. b p i * b p j * b p k))))
        (λ p l. ap (λ (s : ℕ). W p * s) (e3_nest n (b p)))
        ∙ pull n (λ p k. sum k (λ j. sum j (λ i. b p i * b p j * b p k)))
        ∙ sum-ext n (λ k. sum M (λ p. W p * sum k (λ j. sum j (λ i. b p i * b p j * b p k))))
        (λ k. sum k (λ j. sum j (λ i. bit x i * bit x j * bit x k * third_moment i j k)))
        (λ k q. pull k (λ p j. sum j (λ i. b p i * b p j * b p k))
        ∙ sum-ext k (λ j. sum M (λ p. W p * sum j (λ i. b p i * b p j * b p k)))
        (λ j. sum j (λ i. bit x i * bit x j * bit x k * third_moment i j k))
        (λ j l. pull j (λ p i. b p i * b p j * b p k)
        ∙ sum-ext j (λ i. sum M (λ p. W p * (b p i * b p j * b p k))) (λ i. bit x i * bit x j * bit x k * third_moment i j k)
        (λ i h. sum-ext M (λ p. W p * (b p i * b p j * b p k)) (λ p. bit x i * bit x j * bit x k * (W p * (bit p i * bit p j * bit p k)))
        (λ p g. omega arith)
        ∙ sum-scale M (bit x i * bit x j * bit x k) (λ p. W p * (bit p i * bit p j * bit p k)))))

    pub parities_by_moments : parities n x % 8
        ≡ (sum n (λ i. bit x i * first_moment i) + 6 * sum n (λ j. sum j (λ i. bit x i * bit x j * second_moment i j))
        + 4 * sum n (λ k. sum k (λ j. sum j (λ i. bit x i * bit x j * bit x k * third_moment i j k)))) % 8
    unfolding parities parity b
    parities_by_moments =
        sum-mod 8 M (λ p. W p * parity n p x) (λ p. W p * sum n (b p) + 6 * (W p * e2 n (b p)) + 4 * (W p * e3 n (b p)))
        (λ p l. ap (λ (s : ℕ). W p * s % 8) (parity-modulo_8 (b p) n (λ i h. mul_lt (bit p i) (bit x i) (bit-lt p i) (bit-lt x i)))
        ∙ mul_mod_r 8 (W p) (sum n (b p) + 6 * e2 n (b p) + 4 * e3 n (b p)) ∙ ap (λ (s : ℕ). s % 8) (omega arith))
        ∙ ap (λ (s : ℕ). s % 8)
        (omega (
          arith,
          sum-add M (λ p. W p * sum n (b p) + 6 * (W p * e2 n (b p))) (λ p. 4 * (W p * e3 n (b p))),
          sum-add M (λ p. W p * sum n (b p)) (λ p. 6 * (W p * e2 n (b p))),
          sum-scale M 6 (λ p. W p * e2 n (b p)),
          sum-scale M 4 (λ p. W p * e3 n (b p)),
          first,
          second,
          third,
        ))
