-- The partners y and y XOR z: they have one column; and columns whose xor is 0 have members whose xor is 0 or z.
use mathlib.Core.List.{List, [], ◌∷◌, map}
use mathlib.Core.Logic.{◌⊎◌, inl, inr}
use mathlib.Core.Path.{◌∙◌, ◌≡◌, ap, refl, sym}
use Prim.Native.Nat.{◌%◌, ◌*◌, ◌+◌, ◌<◌, ◌^◌, suc, zero, ℕ}
use native.Mathlib.Nat.{le_refl, one-mul, zero-mul}
use native.Mathlib.Omega.{arith}
use lib.Bits.{bit_xor, xor_comm, xor_self, xor_zero_l, xor_zero_r}
use lib.Pow.{pow_pos}
use Rattle.gf2.proofs.Bit.{bit-ext, bit-lt, bit-of_zero, bit-values, bit-xor}
use Rattle.gf2.proofs.Over.{sum_over-mod, xor_all-lt, xor_all-map_bit}
use Rattle.gf2.proofs.Selection.{scale_sum}
use Rattle.gf2.proofs.Xor.{xor_assoc, xor_cancel}
use Rattle.gf2.specs.Bit.{bit}
use Rattle.gf2.specs.Over.{Below, xor_all}
use Rattle.moves.proofs.OneXor.{bar_lt, column_bit}
use Rattle.moves.specs.Column.{bar, column}
use Rattle.moves.specs.Product.{product, tri}

-- ---- the one of two partners without wire t

bar_off : (z t y : ℕ) → bit y t ≡ 0 → bar z t y ≡ y
unfolding bar
bar_off z t y e = rw (e, zero-mul z) (xor_zero_r y)

bar_on : (z t y : ℕ) → bit y t ≡ 1 → bar z t y ≡ bit_xor y z
unfolding bar
bar_on z t y e = rw (e, one-mul z)

pub column_off : (n z t y : ℕ) → bit y t ≡ 0 → column n z t y ≡ product n y
unfolding column
column_off n z t y e = rw (bar_off z t y e)

pub column_on : (n z t y : ℕ) → bit y t ≡ 1 → column n z t y ≡ product n (bit_xor y z)
unfolding column
column_on n z t y e = rw (bar_on z t y e)

bar_xor : (z t x y : ℕ) → bar z t (bit_xor x y) ≡ bit_xor (bar z t x) (bar z t y)
unfolding bar
bar_xor z t x y =
    rw (bit-xor x y t, scale_sum (bit x t) (bit y t) z (bit-lt x t) (bit-lt y t)) (simp (xor_assoc, xor_comm))

bar_none : (z t : ℕ) → bar z t 0 ≡ 0
bar_none z t = bar_off z t 0 (bit-of_zero t)

bar_all : (z t : ℕ) (W : List ℕ) → bar z t (xor_all W) ≡ xor_all (map (bar z t) W)
unfolding xor_all
bar_all z t [] = bar_none z t
bar_all z t (y ∷ W) = bar_xor z t y (xor_all W) ∙ ap (bit_xor (bar z t y)) (bar_all z t W)

module _ (z t : ℕ) (z_t : bit z t ≡ 1) where
  bar_partner : (y : ℕ) → bar z t (bit_xor y z) ≡ bar z t y
  bar_partner y = bar_xor z t y z ∙ ap (bit_xor (bar z t y)) (bar_on z t z z_t ∙ xor_self z) ∙ xor_zero_r (bar z t y)

  pub column_partner : (n y : ℕ) → column n z t (bit_xor y z) ≡ column n z t y
  unfolding column
  column_partner n y = rw (bar_partner y)

  -- equal but for z
  bar_same : (x a : ℕ) → bar z t x ≡ bar z t a → (x ≡ a) ⊎ (x ≡ bit_xor a z)
  bar_same x a e = go (bit-values (bit x t) (bit-lt x t)) (bit-values (bit a t) (bit-lt a t))
    where
      go : (bit x t ≡ 0) ⊎ (bit x t ≡ 1) → (bit a t ≡ 0) ⊎ (bit a t ≡ 1) → (x ≡ a) ⊎ (x ≡ bit_xor a z)
      go (inl p) (inl q) = inl (sym (bar_off z t x p) ∙ e ∙ bar_off z t a q)
      go (inl p) (inr q) = inr (sym (bar_off z t x p) ∙ e ∙ bar_on z t a q)
      go (inr p) (inl q) =
          inr (sym (xor_cancel x z) ∙ ap (λ (y : ℕ). bit_xor y z) (sym (bar_on z t x p) ∙ e ∙ bar_off z t a q))
      go (inr p) (inr q) =
          inl (sym (xor_cancel x z) ∙ ap (λ (y : ℕ). bit_xor y z) (sym (bar_on z t x p) ∙ e ∙ bar_on z t a q) ∙ xor_cancel a z)

  module _ (n : ℕ) (z_lt : z < 2 ^ n) (W : List ℕ) (below : Below (2 ^ n) W) (zeroes : xor_all (map (column n z t) W) ≡ 0) where
    -- the place of a wire with itself holds that wire's bit
    own : (y i : ℕ) → i < n → bit (column n z t y) (tri i + i) ≡ bit (bar z t y) i
    own y i l = column_bit n z t y i i (le_refl _) l ∙ square (bit (bar z t y) i) (bit-lt (bar z t y) i)
      where
        square : (b : ℕ) → b < 2 → b * b ≡ b
        square zero h = refl
        square (suc zero) h = refl
        square (suc (suc b)) h = absurd (omega arith)

    bars_below : Below (2 ^ n) (map (bar z t) W)
    bars_below = at W below
      where
        at : (W : List ℕ) → Below (2 ^ n) W → Below (2 ^ n) (map (bar z t) W)
        at [] h i l = absurd (omega arith)
        at (y ∷ W) h zero l = bar_lt n z t y z_lt (h 0 (omega arith))
        at (y ∷ W) h (suc i) l = at W (λ j k. h (suc j) (omega arith)) i (omega arith)

    bars_zero : xor_all (map (bar z t) W) ≡ 0
    bars_zero =
        bit-ext n (xor_all (map (bar z t) W)) 0 (xor_all-lt n (map (bar z t) W) bars_below) (pow_pos n)
        (λ i l.
        xor_all-map_bit (bar z t) i W
        ∙ sum_over-mod 2 (λ y. bit (bar z t y) i) (λ y. bit (column n z t y) (tri i + i)) (λ y. ap (λ (x : ℕ). x % 2) (sym (own y i l))) W
        ∙ sym (xor_all-map_bit (column n z t) (tri i + i) W) ∙ ap (λ (x : ℕ). bit x (tri i + i)) zeroes
        ∙ bit-of_zero (tri i + i) ∙ sym (bit-of_zero i))

    -- the xor of W is 0, or z
    pub xor_zero_or_z : (xor_all W ≡ 0) ⊎ (xor_all W ≡ z)
    xor_zero_or_z = go (bar_same (xor_all W) 0 (bar_all z t W ∙ bars_zero ∙ sym (bar_none z t)))
      where
        go : (xor_all W ≡ 0) ⊎ (xor_all W ≡ bit_xor 0 z) → (xor_all W ≡ 0) ⊎ (xor_all W ≡ z)
        go (inl e) = inl e
        go (inr e) = inr (e ∙ xor_zero_l z)
