-- What carrying out a move does to any weighted sum of the marks, modulo 2; and, with the weights 1 at p and 0 elsewhere, to the mark of p.
use mathlib.Core.List.{List, [], ◌∷◌}
use mathlib.Core.Logic.{◌≢◌}
use mathlib.Core.Path.{◌∙◌, ◌≡◌, ap, ap₂, refl, sym}
use Prim.Native.Nat.{◌%◌, ◌*◌, ◌+◌, ◌<◌, suc, suc-le-suc, zero, zero-le, ℕ}
use native.Mathlib.Decide.{ℕ_discrete}
use native.Mathlib.Nat.{mod-eq_of_lt}
use native.Mathlib.Omega.{arith}
use lib.Bits.{bit_xor}
use lib.ListN.{get_or, length, length-set, set}
use lib.Seq.{get_or-set_other}
use Rattle.gf2.proofs.Modular.{add_cong, mul_mod_l}
use Rattle.gf2.proofs.Over.{sum_over-add, sum_over-cons, sum_over-ext, sum_over-nil}
use Rattle.gf2.proofs.Sum.{delta-other, delta-same, sum-single, sum-update}
use Rattle.gf2.proofs.Table.{weighted_sum-add_at}
use Rattle.gf2.proofs.Xor.{xor_cancel}
use Rattle.gf2.specs.Over.{Below, sum_over}
use Rattle.gf2.specs.Sum.{delta, sum}
use Rattle.gf2.specs.Table.{weighted_sum}
use Rattle.moves.proofs.Flips.{carry_out-bits, carry_out-length, if_length, pairs_length}
use Rattle.moves.proofs.Sets.{occ}
use Rattle.moves.specs.CarryOut.{carry_out, flip, flip_if, flip_pairs}

-- ---- a weighted sum of the marks

chain : (d₂ d₁ d a b r : ℕ) → d₂ % 2 ≡ (d₁ + 1 * b) % 2 → d₁ % 2 ≡ (d + 1 * a) % 2 → (d₂ + r) % 2 ≡ (d + (a + b + r)) % 2
chain d₂ d₁ d a b r h₂ h₁ = add_cong 2 d₂ (d₁ + 1 * b) r r h₂ refl ∙ step d₁ d a b r h₁
  where
    step : (d₁ d a b r : ℕ) → d₁ % 2 ≡ (d + 1 * a) % 2 → (d₁ + 1 * b + r) % 2 ≡ (d + (a + b + r)) % 2
    step d₁ d a b r h = omega arith

pub sum-pairs : (w : List ℕ) (z : ℕ) (Y : List ℕ) (c : ℕ → ℕ) → Below (length w) Y
    → ((i : ℕ) → i < length Y → bit_xor (get_or Y i 0) z < length w)
    → weighted_sum (flip_pairs w z Y) c % 2 ≡ (weighted_sum w c + sum_over (λ y. c y + c (bit_xor y z)) Y) % 2
unfolding flip_pairs
sum-pairs w z [] c h k = rw (sum_over-nil (λ y. c y + c (bit_xor y z))) (ap (λ (n : ℕ). n % 2) (omega arith))
sum-pairs w z (y ∷ Y) c h k =
    let w₁ : List ℕ = flip w y in
    let w₂ : List ℕ = flip w₁ (bit_xor y z) in
    let e₁ : length w₁ ≡ length w = length-set w y _ in
    let e₂ : length w₂ ≡ length w = length-set w₁ (bit_xor y z) _ ∙ e₁ in
    sum-pairs w₂ z Y c (λ i l. rw e₂ (h (suc i) (suc-le-suc l))) (λ i l. rw e₂ (k (suc i) (suc-le-suc l)))
    ∙ chain (weighted_sum w₂ c) (weighted_sum w₁ c) (weighted_sum w c) (c y) (c (bit_xor y z)) (sum_over (λ y. c y + c (bit_xor y z)) Y)
    (weighted_sum-add_at 2 w₁ c (bit_xor y z) 1 (rw e₁ (k 0 (suc-le-suc zero-le))))
    (weighted_sum-add_at 2 w c y 1 (h 0 (suc-le-suc zero-le)))
    ∙ ap (λ (n : ℕ). (weighted_sum w c + n) % 2) (sym (sum_over-cons (λ y. c y + c (bit_xor y z)) y Y))

sum-if : (r : ℕ) (w : List ℕ) (z : ℕ) (c : ℕ → ℕ) → r < 2 → z < length w
    → weighted_sum (flip_if r w z) c % 2 ≡ (weighted_sum w c + r * c z) % 2
unfolding flip_if
sum-if zero w z c h l = ap (λ (n : ℕ). n % 2) (omega arith)
sum-if (suc zero) w z c h l = weighted_sum-add_at 2 w c z 1 l
sum-if (suc (suc r)) w z c h l = absurd (omega arith)

-- clearing mark 0 changes no sum in which 0 has no weight
sum-clear : (w : List ℕ) (c : ℕ → ℕ) → 0 < length w → c 0 ≡ 0 → weighted_sum (set w 0 0) c ≡ weighted_sum w c
unfolding weighted_sum
sum-clear w c l e =
    ap (λ (k : ℕ). sum k (λ p. get_or (set w 0 0) p 0 * c p)) (length-set w 0 0)
    ∙ add_eq _ _ _ _
    (sum-update (length w) 0 (λ p. get_or w p 0 * c p) (λ p. get_or (set w 0 0) p 0 * c p) l (λ p k ne. rw (get_or-set_other w 0 p 0 0 ne)))
    (rw e (omega arith)) (rw e (omega arith))
  where
    add_eq : (a b x y : ℕ) → a + x ≡ b + y → x ≡ 0 → y ≡ 0 → a ≡ b
    add_eq a b x y h i j = omega arith

-- every y, and every y xor z, has a mark
pub record Fits (marks : List ℕ) (z : ℕ) (Y : List ℕ) : Type 0 where
  pub z_fits : z < length marks
  pub fits : Below (length marks) Y
  pub shifted : (i : ℕ) → i < length Y → bit_xor (get_or Y i 0) z < length marks

pub sum-carry_out : (marks : List ℕ) (z : ℕ) (Y : List ℕ) (c : ℕ → ℕ) → Fits marks z Y → c 0 ≡ 0
    → weighted_sum (carry_out marks z Y) c % 2 ≡ (weighted_sum marks c + (sum_over (λ y. c y + c (bit_xor y z)) Y + length Y * c z)) % 2
unfolding carry_out
sum-carry_out marks z Y c f e =
    let w : List ℕ = flip_pairs marks z Y in
    let r : ℕ = length Y % 2 in
    let long : length w ≡ length marks = pairs_length marks z Y in
    let zl : z < length marks = f.z_fits in
    ap (λ (n : ℕ). n % 2) (sum-clear (flip_if r w z) c (rw (if_length r w z, long) (omega arith)) e)
    ∙ sum-if r w z c (omega arith) (rw long zl)
    ∙ add_cong 2 (weighted_sum w c) (weighted_sum marks c + sum_over (λ y. c y + c (bit_xor y z)) Y) (r * c z) (length Y * c z)
    (sum-pairs marks z Y c f.fits f.shifted) (mul_mod_l 2 (length Y) (c z))
    ∙ ap (λ (n : ℕ). n % 2) (omega arith)

-- ---- the mark of p

sum-at : (w : List ℕ) (p : ℕ) → p < length w → weighted_sum w (delta p) ≡ get_or w p 0
unfolding weighted_sum
sum-at w p l =
    sum-single (length w) p (λ q. get_or w q 0 * delta p q) l (λ q k ne. rw (delta-other p q ne) (omega arith))
    ∙ rw (delta-same p) (omega arith)

-- y xor z is p exactly when y is p xor z
pub delta-xor : (p z y : ℕ) → delta p (bit_xor y z) ≡ delta (bit_xor p z) y
delta-xor p z y = go (ℕ_discrete y (bit_xor p z))
  where
    go : Dec (y ≡ bit_xor p z) → delta p (bit_xor y z) ≡ delta (bit_xor p z) y
    go (yes e) = rw (e, xor_cancel p z, delta-same p, delta-same (bit_xor p z))
    go (no n) =
        delta-other p (bit_xor y z) (λ e. n (sym (xor_cancel y z) ∙ ap (λ (x : ℕ). bit_xor x z) e)) ∙ sym (delta-other (bit_xor p z) y n)

pub mark_carry_out : (marks : List ℕ) (z : ℕ) (Y : List ℕ) (p : ℕ) → Fits marks z Y → get_or marks p 0 < 2 → p < length marks → p ≢ 0
    → get_or (carry_out marks z Y) p 0 ≡ (get_or marks p 0 + (occ p Y + occ (bit_xor p z) Y + length Y * delta p z)) % 2
mark_carry_out marks z Y p f b l ne =
    sym (mod-eq_of_lt (carry_out-bits marks z Y p b))
    ∙ ap (λ (n : ℕ). n % 2) (sym (sum-at (carry_out marks z Y) p (rw (carry_out-length marks z Y) l)))
    ∙ sum-carry_out marks z Y (delta p) f (delta-other p 0 (λ e. ne (sym e)))
    ∙ ap (λ (n : ℕ). n % 2)
    (ap₂ (λ (a s : ℕ). a + (s + length Y * delta p z)) (sum-at marks p l)
    (sum_over-add (delta p) (λ y. delta p (bit_xor y z)) Y
    ∙ ap (λ (s : ℕ). occ p Y + s) (sum_over-ext (λ y. delta p (bit_xor y z)) (delta (bit_xor p z)) (delta-xor p z) Y)))
