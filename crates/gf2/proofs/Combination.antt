-- More on combinations: their size, their span, and one number of the list replaced.
use mathlib.Core.List.{List, [], ◌∷◌, map}
use mathlib.Core.Path.{◌∙◌, ◌≡◌, ap, ap₂, refl, sym}
use Prim.Native.Nat.{◌%◌, ◌*◌, ◌/◌, ◌<◌, ◌^◌, suc, suc-le-suc, zero, zero-le, ℕ}
use native.Mathlib.Nat.{zero-mul}
use native.Mathlib.Numerals.{add-one}
use native.Mathlib.Omega.{arith}
use lib.Bits.{bit_xor, xor_self, xor_zero_l, xor_zero_r}
use lib.ListN.{get_or, length, set}
use lib.Pow.{field, mod-mod-pow}
use lib.Seq.{get_or-set_same}
use Rattle.gf2.proofs.Bit.{bit-lt}
use Rattle.gf2.proofs.Selection.{combine-none, combine-one, combine-scale, combine-set, combine-xor}
use Rattle.gf2.proofs.Xor.{xor_assoc, xor_cancel}
use Rattle.gf2.specs.Bit.{bit}
use Rattle.gf2.specs.Echelon.{SpanBoth}
use Rattle.gf2.specs.Over.{xor_all}
use Rattle.gf2.specs.Selection.{combine}

-- a mask counts below the length of the list only
pub combine-whole : (u : ℕ) (ys : List ℕ) → combine (u % 2 ^ length ys) ys ≡ combine u ys
unfolding combine
combine-whole u [] = refl
combine-whole u (y ∷ ys) =
    let k : ℕ = length ys in
    let low : u % 2 ^ suc k % 2 ≡ u % 2 = ap (λ (j : ℕ). u % 2 ^ j % 2) (sym (add-one k)) ∙ mod-mod-pow u k 1 in
    let up : u % 2 ^ suc k / 2 ≡ (u / 2) % 2 ^ k = ap (λ (j : ℕ). u % 2 ^ j / 2) (sym (add-one k)) ∙ field u k 1 in
    rw (low, up, combine-whole (u / 2) ys)

-- one number replaced
pub combine-put : (u s x : ℕ) (ys : List ℕ) → s < length ys
    → combine u (set ys s x) ≡ bit_xor (combine u ys) (bit u s * bit_xor (get_or ys s 0) x)
combine-put u s x ys l =
    let y : ℕ = get_or ys s 0 in
    let e : bit_xor y (bit_xor y x) ≡ x = sym (xor_assoc y y x) ∙ rw (xor_self y) (xor_zero_l x) in
    ap (λ (v : ℕ). combine u (set ys s v)) (sym e) ∙ combine-set u s (bit_xor y x) ys l

-- a mask that does not name it sees no change
pub combine-unseen : (u s x : ℕ) (ys : List ℕ) → s < length ys → bit u s ≡ 0 → combine u (set ys s x) ≡ combine u ys
combine-unseen u s x ys l e = combine-put u s x ys l ∙ rw (e, zero-mul (bit_xor (get_or ys s 0) x)) (xor_zero_r (combine u ys))

pub get_d_map : (f : ℕ → ℕ) (ys : List ℕ) (i : ℕ) → i < length ys → get_or (map f ys) i 0 ≡ f (get_or ys i 0)
get_d_map f [] i l = absurd (omega arith)
get_d_map f (y ∷ ys) zero l = refl
get_d_map f (y ∷ ys) (suc i) l = get_d_map f ys i (omega arith)

-- a number 0 replaced, whether the mask names it or not
pub combine-fresh : (u s x : ℕ) (ys : List ℕ) → s < length ys → get_or ys s 0 ≡ 0
    → combine (bit_xor u (bit u s * 2 ^ s)) (set ys s x) ≡ combine u ys
combine-fresh u s x ys l e =
    combine-xor u (bit u s * 2 ^ s) (set ys s x)
    ∙ ap₂ bit_xor (combine-put u s x ys l ∙ ap (λ (y : ℕ). bit_xor (combine u ys) (bit u s * y)) (rw e (xor_zero_l x)))
    (combine-scale (bit u s) (2 ^ s) (set ys s x) (bit-lt u s)
    ∙ ap (λ (y : ℕ). bit u s * y) (combine-one s (set ys s x) ∙ get_or-set_same ys s x 0 l))
    ∙ xor_cancel (combine u ys) (bit u s * x)

-- a mask and the number put in
pub combine-with : (u s x : ℕ) (ys : List ℕ) → s < length ys → bit u s ≡ 0
    → combine (bit_xor u (2 ^ s)) (set ys s x) ≡ bit_xor (combine u ys) x
combine-with u s x ys l e =
    combine-xor u (2 ^ s) (set ys s x)
    ∙ ap₂ bit_xor (combine-unseen u s x ys l e) (combine-one s (set ys s x) ∙ get_or-set_same ys s x 0 l)

-- ---- the span of two lists by one mask

pub span_zero : (xs ys : List ℕ) → SpanBoth xs ys 0 0
span_zero xs ys = (0, combine-none xs, combine-none ys)

pub span_xor : (xs ys : List ℕ) (a b c d : ℕ) → SpanBoth xs ys a b → SpanBoth xs ys c d → SpanBoth xs ys (bit_xor a c) (bit_xor b d)
span_xor xs ys a b c d p q = (
  bit_xor p.0 q.0,
  combine-xor p.0 q.0 xs ∙ ap₂ bit_xor p.1 q.1,
  combine-xor p.0 q.0 ys ∙ ap₂ bit_xor p.2 q.2,
)

-- closed under the xor of a list
pub span_all : (xs ys : List ℕ) (κ τ : ℕ → ℕ) (W : List ℕ) → ((i : ℕ) → i < length W → SpanBoth xs ys (κ (get_or W i 0)) (τ (get_or W i 0)))
    → SpanBoth xs ys (xor_all (map κ W)) (xor_all (map τ W))
unfolding xor_all
span_all xs ys κ τ [] h = span_zero xs ys
span_all xs ys κ τ (w ∷ W) h =
    span_xor xs ys (κ w) (τ w) (xor_all (map κ W)) (xor_all (map τ W)) (h 0 (suc-le-suc zero-le))
    (span_all xs ys κ τ W (λ i l. h (suc i) (suc-le-suc l)))
