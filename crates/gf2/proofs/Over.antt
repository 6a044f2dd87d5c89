-- Sums and xors over a list: linear, by congruence, and each bit of a xor by a sum modulo 2.
use mathlib.Core.List.{List, [], ◌++◌, ◌∷◌, map}
use mathlib.Core.Path.{◌∙◌, ◌≡◌, ap, ap₂, refl, sym}
use Prim.Native.Nat.{◌%◌, ◌*◌, ◌+◌, ◌<◌, ◌^◌, suc, suc-le-suc, zero, zero-le, ℕ}
use native.Mathlib.Nat.{add-mod}
use native.Mathlib.Omega.{arith}
use lib.Bits.{bit_xor, xor_lt}
use lib.ListN.{get_or, length}
use lib.Pow.{pow_pos}
use Rattle.gf2.proofs.Bit.{bit-eq, bit-ext, bit-of_zero, bit-xor}
use Rattle.gf2.specs.Bit.{bit}
use Rattle.gf2.specs.Over.{Below, sum_over, xor_all}

pub sum_over-nil : (f : ℕ → ℕ) → sum_over f [] ≡ 0
unfolding sum_over
sum_over-nil f = refl

pub sum_over-cons : (f : ℕ → ℕ) (y : ℕ) (ys : List ℕ) → sum_over f (y ∷ ys) ≡ f y + sum_over f ys
unfolding sum_over
sum_over-cons f y ys = refl

pub sum_over-append : (f : ℕ → ℕ) (xs ys : List ℕ) → sum_over f (xs ++ ys) ≡ sum_over f xs + sum_over f ys
unfolding sum_over
sum_over-append f [] ys = omega arith
sum_over-append f (x ∷ xs) ys = omega (arith, sum_over-append f xs ys)

pub sum_over-add : (f g : ℕ → ℕ) (ys : List ℕ) → sum_over (λ y. f y + g y) ys ≡ sum_over f ys + sum_over g ys
unfolding sum_over
sum_over-add f g [] = refl
sum_over-add f g (y ∷ ys) = omega (arith, sum_over-add f g ys)

pub sum_over-scale : (c : ℕ) (f : ℕ → ℕ) (ys : List ℕ) → sum_over (λ y. c * f y) ys ≡ c * sum_over f ys
unfolding sum_over
sum_over-scale c f [] = omega arith
sum_over-scale c f (y ∷ ys) = omega (arith, sum_over-scale c f ys)

pub sum_over-const : (c : ℕ) (ys : List ℕ) → sum_over (λ y. c) ys ≡ length ys * c
unfolding sum_over
sum_over-const c [] = omega arith
sum_over-const c (y ∷ ys) = omega (arith, sum_over-const c ys)

pub length-sum_over : (ys : List ℕ) → length ys ≡ sum_over (λ y. 1) ys
length-sum_over ys = omega (arith, sum_over-const 1 ys)

pub sum_over-ext : (f g : ℕ → ℕ) → ((y : ℕ) → f y ≡ g y) → (ys : List ℕ) → sum_over f ys ≡ sum_over g ys
unfolding sum_over
sum_over-ext f g h [] = refl
sum_over-ext f g h (y ∷ ys) = omega (arith, h y, sum_over-ext f g h ys)

-- of two functions that agree on the numbers of the list
pub sum_over-in : (g h : ℕ → ℕ) (Y : List ℕ) → ((i : ℕ) → i < length Y → g (get_or Y i 0) ≡ h (get_or Y i 0)) → sum_over g Y ≡ sum_over h Y
unfolding sum_over
sum_over-in g h [] e = refl
sum_over-in g h (y ∷ Y) e = ap₂ (λ (a b : ℕ). a + b) (e 0 (suc-le-suc zero-le)) (sum_over-in g h Y (λ i l. e (suc i) (suc-le-suc l)))

-- no term
pub sum_over-none : (f : ℕ → ℕ) (ys : List ℕ) → ((i : ℕ) → i < length ys → f (get_or ys i 0) ≡ 0) → sum_over f ys ≡ 0
unfolding sum_over
sum_over-none f [] h = refl
sum_over-none f (y ∷ ys) h = omega (arith, h 0 (suc-le-suc zero-le), sum_over-none f ys (λ i l. h (suc i) (suc-le-suc l)))

pub sum_over-mod : (m : ℕ) (f g : ℕ → ℕ) → ((y : ℕ) → f y % m ≡ g y % m) → (ys : List ℕ) → sum_over f ys % m ≡ sum_over g ys % m
unfolding sum_over
sum_over-mod m f g h [] = refl
sum_over-mod m f g h (y ∷ ys) = rw (add-mod (f y) (sum_over f ys) m, add-mod (g y) (sum_over g ys) m, h y, sum_over-mod m f g h ys)

pub sum_over-map : (c f : ℕ → ℕ) (ys : List ℕ) → sum_over c (map f ys) ≡ sum_over (λ y. c (f y)) ys
unfolding sum_over
sum_over-map c f [] = refl
sum_over-map c f (y ∷ ys) = ap (λ (n : ℕ). c (f y) + n) (sum_over-map c f ys)

-- ---- the xor of a list

-- each bit of it counts the numbers that have that bit
pub xor_all-bit : (i : ℕ) (ys : List ℕ) → bit (xor_all ys) i ≡ sum_over (λ y. bit y i) ys % 2
unfolding sum_over xor_all
xor_all-bit i [] = bit-of_zero i
xor_all-bit i (y ∷ ys) = rw (bit-xor y (xor_all ys) i) (omega (arith, xor_all-bit i ys))

pub xor_all-map_bit : (v : ℕ → ℕ) (i : ℕ) (ys : List ℕ) → bit (xor_all (map v ys)) i ≡ sum_over (λ y. bit (v y) i) ys % 2
xor_all-map_bit v i ys = xor_all-bit i (map v ys) ∙ ap (λ (x : ℕ). x % 2) (sum_over-map (λ y. bit y i) v ys)

-- all of them 0
pub xor_all-none : (v : ℕ → ℕ) (ys : List ℕ) → ((i : ℕ) → i < length ys → v (get_or ys i 0) ≡ 0) → xor_all (map v ys) ≡ 0
unfolding xor_all
xor_all-none v [] h = refl
xor_all-none v (y ∷ ys) h = rw (h 0 (suc-le-suc zero-le)) (xor_all-none v ys (λ i l. h (suc i) (suc-le-suc l)))

-- if every sum over ys is, modulo 2, that over xs and one term more, then so is every xor
pub xor_all-more : (v : ℕ → ℕ) (a : ℕ) (ys xs : List ℕ) → ((c : ℕ → ℕ) → sum_over c ys % 2 ≡ (c a + sum_over c xs) % 2)
    → xor_all (map v ys) ≡ bit_xor (v a) (xor_all (map v xs))
xor_all-more v a ys xs h =
    bit-eq _ _ (λ u. xor_all-map_bit v u ys ∙ h (λ y. bit (v y) u) ∙ into (bit (v a) u) (sum_over (λ y. bit (v y) u) xs)
    ∙ ap (λ (x : ℕ). (bit (v a) u + x) % 2) (sym (xor_all-map_bit v u xs)) ∙ sym (bit-xor (v a) (xor_all (map v xs)) u))
  where
    into : (x s : ℕ) → (x + s) % 2 ≡ (x + s % 2) % 2
    into x s = omega arith

pub xor_all-lt : (n : ℕ) (ys : List ℕ) → Below (2 ^ n) ys → xor_all ys < 2 ^ n
unfolding xor_all
xor_all-lt n [] h = pow_pos n
xor_all-lt n (y ∷ ys) h = xor_lt n y (xor_all ys) (h 0 (suc-le-suc zero-le)) (xor_all-lt n ys (λ i l. h (suc i) (suc-le-suc l)))

-- numbers below 2 ^ n: the xor is 0 where each of n bits is set in an even number of them
pub xor_all-zero : (n : ℕ) (ys : List ℕ) → Below (2 ^ n) ys → ((i : ℕ) → i < n → sum_over (λ y. bit y i) ys % 2 ≡ 0) → xor_all ys ≡ 0
xor_all-zero n ys h e = bit-ext n (xor_all ys) 0 (xor_all-lt n ys h) (pow_pos n) (λ i l. xor_all-bit i ys ∙ e i l ∙ sym (bit-of_zero i))

pub below_map : (f : ℕ → ℕ) (b : ℕ) (ys : List ℕ) → ((y : ℕ) → f y < b) → Below b (map f ys)
below_map f b [] h i l = absurd (omega arith)
below_map f b (y ∷ ys) h zero l = h y
below_map f b (y ∷ ys) h (suc i) l = below_map f b ys h i (omega arith)

pub map_same : (ys : List ℕ) → map (λ y. y) ys ≡ ys
map_same [] = refl
map_same (y ∷ ys) = ap (λ (l : List ℕ). y ∷ l) (map_same ys)
