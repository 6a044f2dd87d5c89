-- How many marks differ from those before, while a move is carried out. A flip changes it by one; the marks of y and of y xor z differ
-- together, since both are flipped for each y of Y, so that the mark of y, which was a member, tells of both.
use mathlib.Core.List.{List, [], ◌∷◌}
use mathlib.Core.Logic.{◌≢◌}
use mathlib.Core.Path.{◌∙◌, ◌≡◌, ap, refl, sym}
use Prim.Native.Nat.{◌%◌, ◌*◌, ◌+◌, ◌<◌, ◌≤◌, suc, suc-le-suc, zero, zero-le, ℕ}
use native.Mathlib.Decide.{dec_lt, ℕ_discrete}
use native.Mathlib.Nat.{add_comm}
use native.Mathlib.Omega.{arith}
use lib.Bits.{bit_xor}
use lib.ListN.{get_or, length, length-set, set}
use lib.Seq.{get_or-set_other, get_or-set_same}
use borrow.Author.Tests.{eq-eqb, ne_eqb}
use Rattle.circuit.specs.OddSet.{Member}
use Rattle.gf2.proofs.Modular.{add_cong}
use Rattle.gf2.proofs.Pairing.{xor_nonzero}
use Rattle.gf2.proofs.Sum.{delta-other, delta-same, sum-const, sum-ext, sum-le, sum-update, sum-zero}
use Rattle.gf2.proofs.Xor.{xor_cancel}
use Rattle.gf2.specs.Over.{Below}
use Rattle.gf2.specs.Sum.{delta}
use Rattle.moves.proofs.Change.{delta-xor}
use Rattle.moves.proofs.Flips.{flip_bits, if_length, pairs_length}
use Rattle.moves.specs.CarryOut.{carry_out, differing, flip, flip_if, flip_pairs, unlike}

-- ---- two marks

unlike_same : (x : ℕ) → unlike x x ≡ 0
unfolding unlike
unlike_same x = simp (eq-eqb x x refl)

unlike_le : (x y : ℕ) → unlike x y ≤ 1
unfolding unlike
unlike_le x y = go (ℕ_discrete x y)
  where
    go : Dec (x ≡ y) → unlike x y ≤ 1
    go (yes e) = simp (eq-eqb x y e) (omega arith)
    go (no ne) = simp (ne_eqb x y ne) (omega arith)

unlike_bits : (x y : ℕ) → x < 2 → y < 2 → unlike x y ≡ (x + y) % 2
unfolding unlike
unlike_bits x y hx hy = go (ℕ_discrete x y)
  where
    go : Dec (x ≡ y) → unlike x y ≡ (x + y) % 2
    go (yes e) = simp (eq-eqb x y e) (omega arith)
    go (no ne) = simp (ne_eqb x y ne) (omega arith)

-- ---- one mark set, or flipped

module _ (m w : List ℕ) (q v : ℕ) where
  others : (p : ℕ) → p ≢ q → unlike (get_or m p 0) (get_or w p 0) ≡ unlike (get_or m p 0) (get_or (set w q v) p 0)
  others p ne = rw (get_or-set_other w q p v 0 ne)

  differing-set : q < length m → length w ≡ length m
      → differing m (set w q v) + unlike (get_or m q 0) (get_or w q 0) ≡ differing m w + unlike (get_or m q 0) v
  unfolding differing
  differing-set l e =
      sum-update (length m) q (λ p. unlike (get_or m p 0) (get_or w p 0)) (λ p. unlike (get_or m p 0) (get_or (set w q v) p 0)) l
      (λ p k ne. others p ne)
      ∙ ap (λ (x : ℕ). differing m w + unlike (get_or m q 0) x) (get_or-set_same w q v 0 (rw e l))

  -- at most one more, wherever q is
  differing-more : length w ≡ length m → differing m (set w q v) ≤ differing m w + unlike (get_or m q 0) v
  unfolding differing
  differing-more e = go (dec_lt q (length m))
    where
      go : Dec (q < length m) → differing m (set w q v) ≤ differing m w + unlike (get_or m q 0) v
      go (yes l) = omega (arith, differing-set l e)
      go (no l) =
          omega (
            arith,
            sum-ext (length m) (λ p. unlike (get_or m p 0) (get_or w p 0)) (λ p. unlike (get_or m p 0) (get_or (set w q v) p 0))
                (λ p k. others p (λ i. absurd (omega arith))),
          )

-- no mark differs from itself
pub differing-none : (m : List ℕ) → differing m m ≡ 0
unfolding differing
differing-none m =
    sum-ext (length m) (λ p. unlike (get_or m p 0) (get_or m p 0)) (λ p. 0) (λ p l. unlike_same (get_or m p 0)) ∙ sum-zero (length m)

pub differing-le : (m w : List ℕ) → differing m w ≤ length m
unfolding differing
differing-le m w =
    omega (
      arith,
      sum-le (length m) (λ p. unlike (get_or m p 0) (get_or w p 0)) (λ p. 1) (λ p l. unlike_le (get_or m p 0) (get_or w p 0)),
      sum-const (length m) 1,
    )

-- ---- at most two for each y, one for z, and none for 0

flip_more : (m w : List ℕ) (q : ℕ) → length w ≡ length m → differing m (flip w q) ≤ differing m w + 1
flip_more m w q e =
    omega (arith, differing-more m w q ((get_or w q 0 + 1) % 2) e, unlike_le (get_or m q 0) ((get_or w q 0 + 1) % 2))

pairs_more : (m w : List ℕ) (z : ℕ) (Y : List ℕ) → length w ≡ length m → differing m (flip_pairs w z Y) ≤ differing m w + 2 * length Y
unfolding flip_pairs
pairs_more m w z [] e = omega arith
pairs_more m w z (y ∷ Y) e =
    let w₁ : List ℕ = flip w y in
    let w₂ : List ℕ = flip w₁ (bit_xor y z) in
    let e₁ : length w₁ ≡ length m = length-set w y _ ∙ e in
    let e₂ : length w₂ ≡ length m = length-set w₁ (bit_xor y z) _ ∙ e₁ in
    omega (arith, pairs_more m w₂ z Y e₂, flip_more m w₁ (bit_xor y z) e₁, flip_more m w y e)

if_more : (m : List ℕ) (r : ℕ) (w : List ℕ) (z : ℕ) → length w ≡ length m → differing m (flip_if r w z) ≤ differing m w + 1
unfolding flip_if
if_more m zero w z e = omega arith
if_more m (suc r) w z e = flip_more m w z e

pub differing-few : (m : List ℕ) (z : ℕ) (Y : List ℕ) → get_or m 0 0 ≡ 0 → differing m (carry_out m z Y) ≤ 2 * length Y + 1
unfolding carry_out
differing-few m z Y none =
    let w : List ℕ = flip_pairs m z Y in
    let w' : List ℕ = flip_if (length Y % 2) w z in
    let e : length w ≡ length m = pairs_length m z Y in
    let clear_none : unlike (get_or m 0 0) 0 ≡ 0 = rw none (unlike_same 0) in
    omega (
      arith,
      differing-more m w' 0 0 (if_length (length Y % 2) w z ∙ e),
      clear_none,
      if_more m (length Y % 2) w z e,
      pairs_more m m z Y refl,
      differing-none m,
    )

-- ---- the loop over Y

-- the marks w that some y of Y have made of m: the marks of p and of p xor z differ together
pub record Paired (m : List ℕ) (z : ℕ) (w : List ℕ) : Type 0 where
  pub long : length w ≡ length m
  pub bits_before : (p : ℕ) → get_or m p 0 < 2
  pub bits : (p : ℕ) → get_or w p 0 < 2
  pub together : (p : ℕ) → unlike (get_or m p 0) (get_or w p 0) ≡ unlike (get_or m (bit_xor p z) 0) (get_or w (bit_xor p z) 0)

pub paired_none : {m : List ℕ} {z : ℕ} → ((p : ℕ) → get_or m p 0 < 2) → Paired m z m
paired_none {m} {z} b =
    record {
      long = refl;
      bits_before = b;
      bits = b;
      together = λ p. unlike_same (get_or m p 0) ∙ sym (unlike_same (get_or m (bit_xor p z) 0));
    }

flip_at : (w : List ℕ) (q p : ℕ) → q < length w → get_or w p 0 < 2 → get_or (flip w q) p 0 ≡ (get_or w p 0 + delta q p) % 2
flip_at w q p l b = go (ℕ_discrete p q)
  where
    go : Dec (p ≡ q) → get_or (flip w q) p 0 ≡ (get_or w p 0 + delta q p) % 2
    go (yes e) = rw (e, delta-same q, get_or-set_same w q ((get_or w q 0 + 1) % 2) 0 l)
    go (no ne) = rw (delta-other q p ne, get_or-set_other w q p ((get_or w q 0 + 1) % 2) 0 ne) (omega arith)

flip_differs : (m w : List ℕ) (q : ℕ) → q < length m → length w ≡ length m → get_or m q 0 < 2 → get_or w q 0 < 2
    → differing m (flip w q) + 2 * unlike (get_or m q 0) (get_or w q 0) ≡ differing m w + 1
flip_differs m w q l e a b =
    let v : ℕ = (get_or w q 0 + 1) % 2 in
    omega (
      arith,
      differing-set m w q v l e,
      unlike_bits (get_or m q 0) (get_or w q 0) a b,
      unlike_bits (get_or m q 0) v a (omega arith),
    )

-- two flips in one order, and in the other
flips_sum : (x y a b : ℕ) → (x + ((y + a) % 2 + b) % 2) % 2 ≡ (x + y + (a + b)) % 2
flips_sum x y a b = omega arith

flips_swap : (x y x' y' a b : ℕ) → (x + y) % 2 ≡ (x' + y') % 2
    → (x + ((y + a) % 2 + b) % 2) % 2 ≡ (x' + ((y' + b) % 2 + a) % 2) % 2
flips_swap x y x' y' a b h =
    flips_sum x y a b ∙ add_cong 2 (x + y) (x' + y') (a + b) (b + a) h (ap (λ (n : ℕ). n % 2) (add_comm a b))
    ∙ sym (flips_sum x' y' b a)

module _ {m w : List ℕ} {z : ℕ} (paired : Paired m z w) where
  -- ---- for one y of Y

  module _ {y : ℕ} (y_fits : y < length m) (shifted : bit_xor y z < length m) where
    w₁ : List ℕ
    w₁ = flip w y

    w₂ : List ℕ
    w₂ = flip w₁ (bit_xor y z)

    long₁ : length w₁ ≡ length m
    unfolding w₁
    long₁ = length-set w y _ ∙ paired.long

    bits₁ : (p : ℕ) → get_or w₁ p 0 < 2
    unfolding w₁
    bits₁ p = flip_bits w y p (paired.bits p)

    at₂ : (p : ℕ) → get_or w₂ p 0 ≡ ((get_or w p 0 + delta y p) % 2 + delta (bit_xor y z) p) % 2
    unfolding w₂ w₁
    at₂ p =
        flip_at w₁ (bit_xor y z) p (rw long₁ shifted) (bits₁ p)
        ∙ ap (λ (x : ℕ). (x + delta (bit_xor y z) p) % 2) (flip_at w y p (rw paired.long y_fits) (paired.bits p))

    -- the two deltas of p change places at p xor z
    together₂ : (p : ℕ) → unlike (get_or m p 0) (get_or w₂ p 0) ≡ unlike (get_or m (bit_xor p z) 0) (get_or w₂ (bit_xor p z) 0)
    together₂ p =
        let q : ℕ = bit_xor p z in
        let a : ℕ = delta y p in
        let b : ℕ = delta (bit_xor y z) p in
        let eq : delta (bit_xor y z) q ≡ a = delta-xor (bit_xor y z) z p ∙ ap (λ (x : ℕ). delta x p) (xor_cancel y z) in
        let at_q : get_or w₂ q 0 ≡ ((get_or w q 0 + b) % 2 + a) % 2 = rw (at₂ q, delta-xor y z p, eq) in
        step (get_or m p 0) (get_or w p 0) (get_or m q 0) (get_or w q 0) a b (at₂ p) at_q
        (paired.bits_before p) (paired.bits p) (paired.bits_before q) (paired.bits q) (paired.together p)
      where
        step : (x y x' y' a b : ℕ) {v v' : ℕ} → v ≡ ((y + a) % 2 + b) % 2 → v' ≡ ((y' + b) % 2 + a) % 2
            → x < 2 → y < 2 → x' < 2 → y' < 2 → unlike x y ≡ unlike x' y' → unlike x v ≡ unlike x' v'
        step x y x' y' a b {v} {v'} e e' hx hy hx' hy' h =
            let k : (x + y) % 2 ≡ (x' + y') % 2 = sym (unlike_bits x y hx hy) ∙ h ∙ unlike_bits x' y' hx' hy' in
            unlike_bits x v hx (rw e (omega arith))
            ∙ ap (λ (t : ℕ). (x + t) % 2) e ∙ flips_swap x y x' y' a b k ∙ ap (λ (t : ℕ). (x' + t) % 2) (sym e')
            ∙ sym (unlike_bits x' v' hx' (rw e' (omega arith)))

    pub paired_next : Paired m z (flip (flip w y) (bit_xor y z))
    unfolding w₂ w₁
    paired_next =
        record {
          long = length-set w₁ (bit_xor y z) _ ∙ long₁;
          bits_before = paired.bits_before;
          bits = λ p. flip_bits w₁ (bit_xor y z) p (bits₁ p);
          together = together₂;
        }

    -- of a member: two more where its mark was not flipped before, else two less
    pub differing-next : Member m y → z ≢ 0 → differing m (flip (flip w y) (bit_xor y z)) + 2 ≡ differing m w + 4 * get_or w y 0
    unfolding w₂ w₁
    differing-next member some =
        let q : ℕ = bit_xor y z in
        let still : get_or w₁ q 0 ≡ get_or w q 0 = get_or-set_other w y q _ 0 (xor_nonzero y z some) in
        let both : unlike (get_or m q 0) (get_or w₁ q 0) ≡ unlike (get_or m y 0) (get_or w y 0) = rw still (sym (paired.together y)) in
        omega (
          arith,
          flip_differs m w y y_fits paired.long (paired.bits_before y) (paired.bits y),
          flip_differs m w₁ q shifted long₁ (paired.bits_before q) (bits₁ q),
          both,
          unlike_bits (get_or m y 0) (get_or w y 0) (paired.bits_before y) (paired.bits y),
          member,
          paired.bits y,
        )

  -- ---- at the end

  -- z differs exactly where 0 does
  pub differing-z : get_or m 0 0 ≡ 0 → z < length m → differing m (flip w z) + 2 * get_or w 0 0 ≡ differing m w + 1
  differing-z none fits =
      omega (
        arith,
        flip_differs m w z fits paired.long (paired.bits_before z) (paired.bits z),
        paired.together 0,
        unlike_bits (get_or m 0 0) (get_or w 0 0) (paired.bits_before 0) (paired.bits 0),
        none,
        paired.bits 0,
      )

pub paired_all : {m : List ℕ} {z : ℕ} (w : List ℕ) (Y : List ℕ) → Paired m z w → Below (length m) Y
    → ((i : ℕ) → i < length Y → bit_xor (get_or Y i 0) z < length m) → Paired m z (flip_pairs w z Y)
unfolding flip_pairs
paired_all w [] p fits shifted = p
paired_all {m} {z} w (y ∷ Y) p fits shifted =
    paired_all (flip (flip w y) (bit_xor y z)) Y (paired_next p (fits 0 (suc-le-suc zero-le)) (shifted 0 (suc-le-suc zero-le)))
    (λ i l. fits (suc i) (suc-le-suc l)) (λ i l. shifted (suc i) (suc-le-suc l))

-- mark 0 cleared
pub differing-clear : (m w : List ℕ) → 0 < length m → length w ≡ length m → get_or m 0 0 ≡ 0 → get_or w 0 0 < 2
    → differing m (set w 0 0) + get_or w 0 0 ≡ differing m w
differing-clear m w some long none b =
    let zero_none : unlike (get_or m 0 0) 0 ≡ 0 = rw none (unlike_same 0) in
    let zero_was : unlike (get_or m 0 0) (get_or w 0 0) ≡ get_or w 0 0 =
    rw none (unlike_bits 0 (get_or w 0 0) (omega arith) b ∙ omega arith) in
    omega (arith, differing-set m w 0 0 some long, zero_none, zero_was)
