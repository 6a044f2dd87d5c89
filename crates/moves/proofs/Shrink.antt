-- A legal move takes away at least one member.
use mathlib.Core.List.{List}
use mathlib.Core.Logic.{◌≢◌}
use mathlib.Core.Path.{◌∙◌, ◌≡◌, refl, sym}
use Prim.Native.Nat.{◌%◌, ◌*◌, ◌+◌, ◌<◌, ◌^◌, ◌≤◌, suc, zero, zero-le, ℕ}
use native.Mathlib.Decide.{ℕ_discrete}
use native.Mathlib.Nat.{add-zero, mul-zero}
use native.Mathlib.Omega.{arith}
use lib.Bits.{bit_xor, xor_comm}
use lib.ListN.{length}
use Rattle.circuit.proofs.OddSet.{members_sum}
use Rattle.circuit.specs.OddSet.{member_count}
use Rattle.circuit.specs.Sound.{SoundMarks, weight}
use Rattle.gf2.proofs.Pairing.{pairs_drop, sum-delta, sum-stop, xor_equal}
use Rattle.gf2.proofs.Sum.{delta-other, delta-same, sum-add, sum-le}
use Rattle.gf2.proofs.Xor.{xor_cancel}
use Rattle.gf2.specs.Sum.{delta, sum}
use Rattle.moves.proofs.Change.{mark_carry_out}
use Rattle.moves.proofs.Flips.{clear_carry_out}
use Rattle.moves.proofs.Keep.{a_member, member_lt, move_fits, sound_kept, z_lt}
use Rattle.moves.proofs.Sets.{in_occ, occ, occ-in, occ-once, occ-out, rising}
use Rattle.moves.specs.CarryOut.{carry_out}
use Rattle.moves.specs.Move.{Legal}

pub members_below : (size n : ℕ) (marks : List ℕ) → 2 ^ n ≤ size → SoundMarks size n marks
    → member_count marks ≡ sum (2 ^ n) (λ p. weight marks p)
members_below size n marks room s =
    let e : length marks ≡ size = s.long in
    members_sum marks s.bits ∙ sum-stop (2 ^ n) (length marks) (λ p. weight marks p) (omega arith) s.high

-- on a pair p, p xor z with marks m, m', of which Y has o, o'
pair_le : (m m' o o' : ℕ) → m < 2 → m' < 2 → o ≤ m → o' ≤ m' → (m + (o + o')) % 2 + (m' + (o' + o)) % 2 ≤ m + m'
pair_le zero zero o o' h h' l l' = omega arith
pair_le zero (suc zero) o o' h h' l l' = omega arith
pair_le (suc zero) zero o o' h h' l l' = omega arith
pair_le (suc zero) (suc zero) o o' h h' l l' = omega arith
pair_le zero (suc (suc m')) o o' h h' l l' = absurd (omega arith)
pair_le (suc zero) (suc (suc m')) o o' h h' l l' = absurd (omega arith)
pair_le (suc (suc m)) m' o o' h h' l l' = absurd (omega arith)

module _ (size n most : ℕ) (room : 2 ^ n ≤ size) (marks : List ℕ) (sound : SoundMarks size n marks) (z : ℕ) (Y : List ℕ)
    (legal : Legal most n marks z Y) where
  m : ℕ → ℕ
  m p = weight marks p

  -- the marks when every y and every y xor z is flipped, and not yet z
  m₁ : ℕ → ℕ
  m₁ p = (m p + (occ p Y + occ (bit_xor p z) Y)) % 2

  -- what stands in Y is marked
  occ-le : (p : ℕ) → occ p Y ≤ m p
  unfolding m
  occ-le p = go (occ p Y) refl
    where
      go : (o : ℕ) → occ p Y ≡ o → o ≤ weight marks p
      go zero e = zero-le
      go (suc o) e = omega (arith, occ-once 0 p Y (rising Y legal.ordered), legal.marked p (occ-in p Y (omega arith)))

  step_le : (p : ℕ) → p < 2 ^ n → m₁ p + m₁ (bit_xor p z) ≤ m p + m (bit_xor p z)
  unfolding m₁ m
  step_le p l =
      rw (xor_cancel p z)
      (pair_le (m p) (m (bit_xor p z)) (occ p Y) (occ (bit_xor p z) Y)
      (sound.bits p) (sound.bits (bit_xor p z)) (occ-le p) (occ-le (bit_xor p z)))

  open legal.separates use {a, b, a_in, b_member, b_out, z_is}

  a_to_b : bit_xor a z ≡ b
  a_to_b = rw (z_is, xor_comm a b, xor_comm a (bit_xor b a)) (xor_cancel b a)

  occ-a : occ a Y ≡ 1
  occ-a = omega (arith, in_occ a Y a_in, occ-once 0 a Y (rising Y legal.ordered))

  occ-b : occ b Y ≡ 0
  occ-b = occ-out b Y b_out

  z_some : z ≢ 0
  z_some e = b_out (a_in.0, a_in.1, a_in.2 ∙ xor_equal a b (sym z_is ∙ e))

  step_strict : m₁ a + m₁ (bit_xor a z) + 2 ≤ m a + m (bit_xor a z)
  unfolding m₁ m
  step_strict = rw (xor_cancel a z, a_to_b, occ-a, occ-b, b_member, a_member size n most room marks sound z Y legal) (omega arith)

  after_le : (p : ℕ) → p < 2 ^ n → weight (carry_out marks z Y) p ≤ m₁ p + delta z p
  unfolding m₁ m
  after_le p l = go (ℕ_discrete p 0) (ℕ_discrete p z)
    where
      now : p ≢ 0 → weight (carry_out marks z Y) p ≡ (weight marks p + (occ p Y + occ (bit_xor p z) Y + length Y * delta p z)) % 2
      now ne =
          let e : length marks ≡ size = sound.long in
          mark_carry_out marks z Y p (move_fits size n most room marks sound z Y legal) (sound.bits p) (omega arith) ne

      small : (x y : ℕ) → x % 2 ≤ y + 1
      small x y = omega arith

      go : Dec (p ≡ 0) → Dec (p ≡ z) → weight (carry_out marks z Y) p ≤ m₁ p + delta z p
      go (yes e) d = rw (e, clear_carry_out marks z Y) zero-le
      go (no ne) (yes e) = rw (now ne, e, delta-same z) (small _ _)
      go (no ne) (no d) =
          rw (now ne, delta-other p z (λ e. d (sym e)), mul-zero (length Y), add-zero (occ p Y + occ (bit_xor p z) Y)) (omega arith)

  pub shrinks : member_count (carry_out marks z Y) + 1 ≤ member_count marks
  unfolding m
  shrinks =
      let zl : z < 2 ^ n = z_lt size n most room marks sound z Y legal in
      omega (
        arith,
        members_below size n marks room sound,
        members_below size n (carry_out marks z Y) room (sound_kept size n most room marks sound z Y legal),
        pairs_drop n z a m m₁ zl z_some
            (member_lt size n marks sound a (a_member size n most room marks sound z Y legal)) step_le step_strict,
        sum-le (2 ^ n) (λ p. weight (carry_out marks z Y) p) (λ p. m₁ p + delta z p) after_le,
        sum-add (2 ^ n) m₁ (delta z),
        sum-delta (2 ^ n) z zl,
      )
