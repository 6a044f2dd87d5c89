-- The plain sums behind l, q and c, and the signature by them.
use mathlib.Core.List.{List}
use mathlib.Core.Logic.{◌↔◌}
use mathlib.Core.Path.{refl, sym, ◌∙◌, ◌≡◌}
use Prim.Native.Nat.{◌%◌, ◌*◌, ◌-◌, ◌<◌, suc, zero, ℕ}
use native.Mathlib.Omega.{arith}
use Rattle.gf2.specs.Bit.{bit}
use Rattle.gf2.specs.Table.{weighted_sum}
use Rattle.phase.specs.Coefficients.{c, l, q}
use Rattle.phase.specs.Signature.{SameSignature}

abbrev pub L : List ℕ → ℕ → ℕ
L w i = weighted_sum w (λ p. bit p i)

abbrev pub Q : List ℕ → ℕ → ℕ → ℕ
Q w i j = weighted_sum w (λ p. bit p i * bit p j)

abbrev pub C : List ℕ → ℕ → ℕ → ℕ → ℕ
C w i j k = weighted_sum w (λ p. bit p i * bit p j * bit p k)

-- equal modulo 2
pub record SameSums (n : ℕ) (v w : List ℕ) : Type 0 where
  pub l : (i : ℕ) → i < n → L v i % 2 ≡ L w i % 2
  pub q : (i j : ℕ) → i < j → j < n → Q v i j % 2 ≡ Q w i j % 2
  pub c : (i j k : ℕ) → i < j → j < k → k < n → C v i j k % 2 ≡ C w i j k % 2

minus2 : (x : ℕ) → (4 - x % 4) % 4 % 2 ≡ x % 2
minus2 x = go (x % 4) refl (omega arith)
  where
    go : (r : ℕ) → x % 4 ≡ r → r < 4 → (4 - r) % 4 % 2 ≡ x % 2
    go zero e h = omega arith
    go (suc zero) e h = omega arith
    go (suc (suc zero)) e h = omega arith
    go (suc (suc (suc zero))) e h = omega arith
    go (suc (suc (suc (suc r)))) e h = absurd (omega arith)

eighth : (x : ℕ) → x % 8 % 2 ≡ x % 2
eighth x = omega arith

half : (x : ℕ) → x % 2 % 2 ≡ x % 2
half x = omega arith

-- the same signature, by the plain sums modulo 2
pub signature_sums : (n : ℕ) (v w : List ℕ) → SameSignature n v w ↔ SameSums n v w
unfolding l q c
signature_sums n v w = (
  λ s. record {
    l = λ i h. sym (eighth (L v i)) ∙ s.l2 i h ∙ eighth (L w i);
    q = λ i j h g. sym (minus2 (Q v i j)) ∙ s.q2 i j h g ∙ minus2 (Q w i j);
    c = λ i j k h g f. sym (half (C v i j k)) ∙ s.c2 i j k h g f ∙ half (C w i j k);
  },
  λ s. record {
    l2 = λ i h. eighth (L v i) ∙ s.l i h ∙ sym (eighth (L w i));
    q2 = λ i j h g. minus2 (Q v i j) ∙ s.q i j h g ∙ sym (minus2 (Q w i j));
    c2 = λ i j k h g f. half (C v i j k) ∙ s.c i j k h g f ∙ sym (half (C w i j k));
  },
)
