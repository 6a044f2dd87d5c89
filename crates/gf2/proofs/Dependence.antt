-- More numbers below 2 ^ N than N have a combination that is 0, and not the empty one.
-- By counting: the 2 ^ N + 1 masks 0 .. 2 ^ N cannot all give different values.
use mathlib.Core.List.{List, [], ◌∷◌}
use mathlib.Core.Logic.{◌≢◌, ◌⊎◌, inl, inr}
use mathlib.Core.Path.{◌∙◌, ◌≡◌, ap, sym}
use Prim.Native.Nat.{◌%◌, ◌*◌, ◌-◌, ◌/◌, ◌<◌, ◌^◌, max, min, suc, suc-le-suc, zero, ℕ}
use native.Mathlib.Decide.{dec_lt, ℕ_discrete}
use native.Mathlib.Nat.{le_refl}
use native.Mathlib.Omega.{arith}
use lib.Bits.{bit_xor, xor_lt, xor_self}
use lib.Pow.{pow_pos}
use Rattle.gf2.proofs.Pairing.{xor_equal}
use Rattle.gf2.proofs.Selection.{combine-xor, scale_lt}
use Rattle.gf2.specs.Over.{Below}
use Rattle.gf2.specs.Selection.{combine}

-- ---- the pigeonhole principle

search_for : (f : ℕ → ℕ) (c m : ℕ) → ((i : ℕ) × (i < m) × (f i ≡ c)) ⊎ ((i : ℕ) → i < m → f i ≢ c)
search_for f c zero = inr (λ i l. absurd (omega arith))
search_for f c (suc m) = go (search_for f c m) (ℕ_discrete (f m) c)
  where
    go : ((i : ℕ) × (i < m) × (f i ≡ c)) ⊎ ((i : ℕ) → i < m → f i ≢ c) → Dec (f m ≡ c)
        → ((i : ℕ) × (i < suc m) × (f i ≡ c)) ⊎ ((i : ℕ) → i < suc m → f i ≢ c)
    go (inl t) d = inl (t.0, omega arith, t.2)
    go (inr h) (yes e) = inl (m, le_refl _, e)
    go (inr h) (no n) = inr (λ i l e. at i l e (ℕ_discrete i m))
      where
        at : (i : ℕ) → i < suc m → f i ≡ c → Dec (i ≡ m) → ⊥
        at i l e (yes q) = n (ap f (sym q) ∙ e)
        at i l e (no q) = h i (omega arith) e

-- the numbers other than c, with the gap closed
squash : ℕ → ℕ → ℕ
squash c y = max (min y c) (y - 1)

squash_lt : (c y m : ℕ) → y ≢ c → y < suc m → c < suc m → squash c y < m
unfolding squash
squash_lt c y m h l k = omega arith

squash_lo : (c y : ℕ) → y < c → squash c y ≡ y
unfolding squash
squash_lo c y h = omega arith

squash_hi : (c y : ℕ) → c < y → suc (squash c y) ≡ y
unfolding squash
squash_hi c y h = omega arith

squash_inj : (c x y : ℕ) → x ≢ c → y ≢ c → squash c x ≡ squash c y → x ≡ y
squash_inj c x y h k e = go (dec_lt x c) (dec_lt y c)
  where
    go : Dec (x < c) → Dec (y < c) → x ≡ y
    go (yes p) (yes q) = omega (arith, squash_lo c x p, squash_lo c y q)
    go (yes p) (no q) = omega (arith, squash_lo c x p, squash_hi c y (omega arith))
    go (no p) (yes q) = omega (arith, squash_hi c x (omega arith), squash_lo c y q)
    go (no p) (no q) = omega (arith, squash_hi c x (omega arith), squash_hi c y (omega arith))

-- m + 1 values below m: two are equal
pub pigeon : (m : ℕ) (f : ℕ → ℕ) → ((i : ℕ) → i < suc m → f i < m) → (i : ℕ) × (j : ℕ) × (i < j) × (j < suc m) × (f i ≡ f j)
pigeon zero f h = absurd (omega (arith, h 0 (le_refl _)))
pigeon (suc m) f h = go (search_for f (f (suc m)) (suc m)) (λ g. pigeon m g)
  where
    c : ℕ
    c = f (suc m)

    go : ((i : ℕ) × (i < suc m) × (f i ≡ c)) ⊎ ((i : ℕ) → i < suc m → f i ≢ c)
        → ((g : ℕ → ℕ) → ((i : ℕ) → i < suc m → g i < m) → (i : ℕ) × (j : ℕ) × (i < j) × (j < suc m) × (g i ≡ g j))
        → (i : ℕ) × (j : ℕ) × (i < j) × (j < suc (suc m)) × (f i ≡ f j)
    go (inl t) r = (t.0, suc m, t.1, le_refl _, t.2)
    go (inr n) r =
        let t = r (λ i. squash c (f i)) (λ i l. squash_lt c (f i) m (n i l) (h i (omega arith)) (h (suc m) (le_refl _))) in
        (t.0, t.1, t.2, omega arith, squash_inj c (f t.0) (f t.1) (n t.0 (omega arith)) (n t.1 t.3) t.4)

-- ---- combinations

pub combine-lt : (N s : ℕ) (ys : List ℕ) → Below (2 ^ N) ys → combine s ys < 2 ^ N
unfolding combine
combine-lt N s [] h = pow_pos N
combine-lt N s (y ∷ ys) h =
    xor_lt N (s % 2 * y) (combine (s / 2) ys) (scale_lt (s % 2) y (2 ^ N) (omega arith) (h 0 (omega arith)))
    (combine-lt N (s / 2) ys (λ i l. h (suc i) (suc-le-suc l)))

-- a mask of N + 1 bits, not 0, whose combination is 0
pub dependent : (N : ℕ) (ys : List ℕ) → Below (2 ^ N) ys → (u : ℕ) × (u ≢ 0) × (u < 2 ^ suc N) × (combine u ys ≡ 0)
dependent N ys h =
    let t = pigeon (2 ^ N) (λ s. combine s ys) (λ s l. combine-lt N s ys h) in
    let i : ℕ = t.0 in
    let j : ℕ = t.1 in (
      bit_xor i j,
      λ e. differ i j t.2 (xor_equal i j e),
      xor_lt (suc N) i j (omega arith) (omega arith),
      combine-xor i j ys ∙ ap (λ (x : ℕ). bit_xor x (combine j ys)) t.4 ∙ xor_self (combine j ys),
    )
  where
    differ : (i j : ℕ) → i < j → i ≢ j
    differ i j l e = omega arith
