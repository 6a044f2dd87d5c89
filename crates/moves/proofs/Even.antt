-- Even sums over a list; and from the triple conditions for i < j < k to those for any three wires.
use mathlib.Core.List.{List}
use mathlib.Core.Logic.{◌⊎◌, inl, inr}
use mathlib.Core.Path.{◌∙◌, ◌≡◌, ap, subst, sym}
use Prim.Native.Nat.{◌%◌, ◌*◌, ◌+◌, ◌<◌, suc, zero, ℕ}
use native.Mathlib.Decide.{dec_lt, ℕ_discrete}
use native.Mathlib.Omega.{arith}
use Rattle.gf2.proofs.Bit.{bit-lt, bit-of_zero}
use Rattle.gf2.proofs.Modular.{even_mul}
use Rattle.gf2.proofs.Over.{sum_over-add, sum_over-mod, sum_over-scale, xor_all-bit}
use Rattle.gf2.specs.Bit.{bit}
use Rattle.gf2.specs.Over.{sum_over, xor_all}
use Rattle.moves.specs.Move.{Balanced, triple}

abbrev pub Even : (ℕ → ℕ) → List ℕ → Type 0
Even f Y = sum_over f Y % 2 ≡ 0

pub even_by : (f g : ℕ → ℕ) (Y : List ℕ) → ((y : ℕ) → f y % 2 ≡ g y % 2) → Even g Y → Even f Y
even_by f g Y h e = sum_over-mod 2 f g h Y ∙ e

pub even_add : (f g : ℕ → ℕ) (Y : List ℕ) → Even f Y → Even g Y → Even (λ y. f y + g y) Y
even_add f g Y h k = ap (λ (n : ℕ). n % 2) (sum_over-add f g Y) ∙ sum2 (sum_over f Y) (sum_over g Y) h k
  where
    sum2 : (a b : ℕ) → a % 2 ≡ 0 → b % 2 ≡ 0 → (a + b) % 2 ≡ 0
    sum2 a b h k = omega arith

pub even_scale : (c : ℕ) (f : ℕ → ℕ) (Y : List ℕ) → Even f Y → Even (λ y. c * f y) Y
even_scale c f Y h = ap (λ (n : ℕ). n % 2) (sum_over-scale c f Y) ∙ even_mul c (sum_over f Y) h

-- the xor of Y is 0: each bit is set in an even number
pub even_bit : (Y : List ℕ) → xor_all Y ≡ 0 → (t : ℕ) → Even (λ y. bit y t) Y
even_bit Y h t = sym (xor_all-bit t Y) ∙ rw h (bit-of_zero t)

-- ---- any three wires
pub compare : (a b : ℕ) → (a < b) ⊎ ((a ≡ b) ⊎ (b < a))
compare a b = go (dec_lt a b) (ℕ_discrete a b)
  where
    go : Dec (a < b) → Dec (a ≡ b) → (a < b) ⊎ ((a ≡ b) ⊎ (b < a))
    go (yes l) d = inl l
    go (no l) (yes e) = inr (inl e)
    go (no l) (no e) = inr (inr (omega arith))

-- what holds of ascending triples and of pairs, and is symmetric, holds of all
module _ (n : ℕ) (Q : ℕ → ℕ → ℕ → Type 0)
    (s₁ : (i j k : ℕ) → Q i j k → Q j i k)
    (s₂ : (i j k : ℕ) → Q i j k → Q i k j)
    (two : (i k : ℕ) → Q i i k)
    (up : (i j k : ℕ) → i < j → j < k → k < n → Q i j k) where
  first_two : (i j k : ℕ) → i < j → j < n → k < n → Q i j k
  first_two i j k l lj lk = at (compare j k) (compare i k)
    where
      at : (j < k) ⊎ ((j ≡ k) ⊎ (k < j)) → (i < k) ⊎ ((i ≡ k) ⊎ (k < i)) → Q i j k
      at (inl h) c = up i j k l h lk
      at (inr (inl e)) c = subst (λ (x : ℕ). Q i j x) e (s₁ j i j (s₂ j j i (two j i)))
      at (inr (inr h)) (inl g) = s₂ i k j (up i k j g h lj)
      at (inr (inr h)) (inr (inl e)) = subst (λ (x : ℕ). Q i j x) e (s₂ i i j (two i j))
      at (inr (inr h)) (inr (inr g)) = s₂ i k j (s₁ k i j (up k i j g l lj))

  pub any_three : (i j k : ℕ) → i < n → j < n → k < n → Q i j k
  any_three i j k li lj lk = at (compare i j)
    where
      at : (i < j) ⊎ ((i ≡ j) ⊎ (j < i)) → Q i j k
      at (inl h) = first_two i j k h lj lk
      at (inr (inl e)) = subst (λ (x : ℕ). Q i x k) e (two i k)
      at (inr (inr h)) = s₁ j i k (first_two j i k h li lk)

-- z_i y_i y_k twice, and z_k y_i y_i
pair : (a b c d : ℕ) → b < 2 → (a * b * c + a * b * c + d * b * b) % 2 % 2 ≡ d * b % 2
pair a zero c d h = omega arith
pair a (suc zero) c d h = omega arith
pair a (suc (suc b)) c d h = absurd (omega arith)

pub triples_all : (n z : ℕ) (Y : List ℕ) → Balanced n z Y → (i j k : ℕ) → i < n → j < n → k < n → Even (triple z i j k) Y
triples_all n z Y b =
    any_three n (λ i j k. Even (triple z i j k) Y)
    (λ i j k e. even_by (triple z j i k) (triple z i j k) Y (λ y. ap (λ (n : ℕ). n % 2 % 2) (omega arith)) e)
    (λ i j k e. even_by (triple z i k j) (triple z i j k) Y (λ y. ap (λ (n : ℕ). n % 2 % 2) (omega arith)) e)
    (λ i k. even_by (triple z i i k) (λ y. bit z k * bit y i) Y (λ y. pair (bit z i) (bit y i) (bit y k) (bit z k) (bit-lt y i))
    (even_scale (bit z k) (λ y. bit y i) Y (even_bit Y b.zero_xor i)))
    b.triples
