-- The steps of carrying out a move, as code takes them: the marks, and how many of them differ from those before.
use mathlib.Core.List.{List}
use mathlib.Core.Logic.{◌≢◌}
use mathlib.Core.Path.{◌∙◌, ◌≡◌, ap, refl, sym}
use Prim.Native.Nat.{◌%◌, ◌*◌, ◌+◌, ◌<◌, ◌≤◌, suc, zero, ℕ}
use native.Mathlib.Omega.{arith}
use lib.Bits.{bit_xor, xor_lt}
use lib.ListN.{drop, get_or, length, set}
use Rattle.circuit.specs.Limits.{max_members, max_wires, table_bytes}
use Rattle.circuit.specs.Sound.{weight}
use Rattle.gf2.specs.Over.{Below}
use Rattle.moves.proofs.Differing.{Paired, differing-clear, differing-le, differing-next, differing-none, differing-z}
use Rattle.moves.proofs.Differing.{paired_all, paired_next, paired_none}
use Rattle.moves.proofs.Flips.{if_bits, if_length, pairs_end, pairs_next}
use Rattle.moves.specs.CarryOut.{carry_out, differing, flip, flip_if, flip_pairs}
use Rattle.legality.proofs.Conditions.{members_below}
use Rattle.carry.specs.Flips.{Clears, Flippable, Flips, FlipsIfOdd, OddCounted, ZFlippable, Clearable}

-- ---- the pairs

-- what the loop over Y keeps: what is left of Y makes of the marks w now what all of Y makes of those lent; marks differ in pairs; and two
-- more came to differ for `up` of the i so far, two less for the others
pub record FlippedTo (m : List ℕ) (z : ℕ) (Y : List ℕ) (i : ℕ) (w : List ℕ) (up : ℕ) : Type 0 where
  pub left : flip_pairs w z (drop i Y) ≡ flip_pairs m z Y
  pub paired : Paired m z w
  pub counted : differing m w + 2 * i ≡ 4 * up

module _ {m : List ℕ} {z : ℕ} {Y : List ℕ} (may : Flippable m z Y) where
  long : length m ≡ table_bytes
  long = may.sound.long

  pub y_fits : Below table_bytes Y
  y_fits = members_below max_wires m Y long may.members

  y_shifted : (i : ℕ) → i < length Y → bit_xor (get_or Y i 0) z < table_bytes
  y_shifted i l = xor_lt max_wires (get_or Y i 0) z (y_fits i l) may.fits

  pub flipped_none : FlippedTo m z Y 0 m 0
  flipped_none = record { left = refl; paired = paired_none may.sound.bits; counted = omega (arith, differing-none m) }

  module _ {i up : ℕ} {w : List ℕ} (t : FlippedTo m z Y i w up) (inside : i ≤ length Y) where
    pub few_up : 4 * up ≤ table_bytes + 2 * max_members
    few_up = omega (arith, t.counted, differing-le m w, long, may.few)

    pub flipped_all : i ≡ length Y → {differ : ℕ} → differ + 2 * i ≡ 4 * up → Flips (flip_pairs m z Y) m w differ
    flipped_all e d = record { are = pairs_end w (flip_pairs m z Y) z Y i e t.left; counted = omega (arith, t.counted) }

  -- one turn, for y that stands at i
  module _ {i y up : ℕ} {w : List ℕ} (t : FlippedTo m z Y i w up) (inside : i < length Y) (y_is : y ≡ get_or Y i 0) where
    turn : differing m (flip (flip w y) (bit_xor y z)) + 2 ≡ differing m w + 4 * weight w y
    turn =
        rw y_is
        (differing-next t.paired (rw long (y_fits i inside)) (rw long (y_shifted i inside))
        (may.members (get_or Y i 0) (i, inside, refl)) may.some)

    pub mark_small : weight w y < 2
    mark_small = t.paired.bits y

    pub flipped_next : {w₁ w₂ : List ℕ} {mark : ℕ} → mark ≡ weight w y → w₁ ≡ flip w y → w₂ ≡ flip w₁ (bit_xor y z)
        → FlippedTo m z Y (i + 1) w₂ (up + mark)
    flipped_next {w₁} {w₂} em e₁ e₂ =
        let f₁ : w₁ ≡ flip w (get_or Y i 0) = e₁ ∙ ap (flip w) y_is in
        let f₂ : w₂ ≡ flip w₁ (bit_xor (get_or Y i 0) z) = e₂ ∙ ap (λ (x : ℕ). flip w₁ (bit_xor x z)) y_is in
        record {
          left = pairs_next w w₁ w₂ (flip_pairs m z Y) z Y i inside f₁ f₂ t.left;
          paired = rw (f₂, f₁) (paired_next t.paired (rw long (y_fits i inside)) (rw long (y_shifted i inside)));
          counted = rw (e₂, e₁) (omega (arith, turn, em, t.counted));
        }

  -- ---- the mark of z

  module _ {w : List ℕ} {differ : ℕ} (pairs : Flips (flip_pairs m z Y) m w differ) where
    paired : Paired m z w
    paired =
        rw pairs.are
        (paired_all m Y (paired_none may.sound.bits) (λ i l. rw long (y_fits i l)) (λ i l. rw long (y_shifted i l)))

    z_turn : differing m (flip w z) + 2 * weight w 0 ≡ differ + 1
    z_turn = rw pairs.counted (differing-z paired may.sound.none (rw long may.fits))

    pub may_flip_z : ZFlippable w z differ
    may_flip_z =
        record {
          fits = may.fits;
          enough = omega (arith, z_turn);
          few = rw (pairs.counted, ← long) (differing-le m w);
        }

    counted_if : (odd : ℕ) {r : ℕ} → OddCounted odd (weight w 0) differ r → r ≡ differing m (flip_if odd w z)
    unfolding flip_if
    counted_if zero e = e ∙ pairs.counted
    counted_if (suc odd) e = omega (arith, z_turn)

    -- ---- mark 0

    module _ {odd r : ℕ} {w' : List ℕ} (all : FlipsIfOdd odd z differ w w' r) where
      long' : length w' ≡ length m
      long' = rw all.are (if_length odd w z ∙ paired.long)

      zero_turn : differing m (set w' 0 0) + weight w' 0 ≡ r
      zero_turn =
          differing-clear m w' (rw long (omega arith)) long' may.sound.none (rw all.are (if_bits odd w z 0 (paired.bits 0)))
          ∙ sym (counted_if odd all.counted ∙ ap (differing m) (sym all.are))

      pub may_clear : Clearable w' r
      may_clear = record { enough = omega (arith, zero_turn) }

      pub carried : {w'' : List ℕ} {s : ℕ} → odd ≡ length Y % 2 → Clears r w' w'' s → Flips (carry_out m z Y) m w'' s
      unfolding carry_out
      carried e last =
          let same : w' ≡ flip_if (length Y % 2) (flip_pairs m z Y) z = rw (← e, ← pairs.are) all.are in
          record {
            are = last.are ∙ ap (λ (v : List ℕ). set v 0 0) same;
            counted = rw last.are (omega (arith, zero_turn, last.counted));
          }

-- ---- the mark of z, as code takes it

module _ (w : List ℕ) (z count : ℕ) {differ : ℕ} where
  pub even_kept : count % 2 ≡ 0 → FlipsIfOdd (count % 2) z differ w w differ
  unfolding flip_if
  even_kept e = rw e (record { are = refl; counted = refl })

  pub odd_flipped : {w' : List ℕ} {r : ℕ} → count % 2 ≢ 0 → w' ≡ flip w z → r + 2 * weight w 0 ≡ differ + 1
      → FlipsIfOdd (count % 2) z differ w w' r
  unfolding flip_if
  odd_flipped ne h k = let e : count % 2 ≡ 1 = omega arith in rw e (record { are = h; counted = k })
