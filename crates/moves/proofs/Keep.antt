-- A legal move keeps the signature, and leaves sound marks.
use mathlib.Core.List.{List}
use mathlib.Core.Path.{◌∙◌, ◌≡◌, ap, refl, sym}
use Prim.Native.Nat.{◌%◌, ◌*◌, ◌+◌, ◌<◌, ◌^◌, ◌≤◌, suc, zero, ℕ}
use native.Mathlib.Decide.{dec_lt}
use native.Mathlib.Omega.{arith}
use lib.Bits.{bit_xor, xor_lt}
use lib.ListN.{get_or-eq_default, get_or, length}
use lib.Pow.{pow_pos}
use Rattle.circuit.specs.OddSet.{Member}
use Rattle.circuit.specs.Sound.{SoundMarks, weight}
use Rattle.gf2.proofs.Bit.{bit-lt, bit-of_zero}
use Rattle.gf2.proofs.Cubic.{cubic}
use Rattle.gf2.proofs.Sum.{delta-other, sum-mod}
use Rattle.gf2.proofs.Xor.{xor_cancel}
use Rattle.gf2.specs.Bit.{bit}
use Rattle.gf2.specs.Over.{Below, sum_over}
use Rattle.gf2.specs.Table.{weighted_sum}
use Rattle.phase.proofs.Sums.{signature_sums}
use Rattle.phase.specs.Signature.{SameSignature}
use Rattle.moves.proofs.Change.{Fits, mark_carry_out, sum-carry_out}
use Rattle.moves.proofs.Even.{triples_all}
use Rattle.moves.proofs.Flips.{carry_out-bits, carry_out-length, clear_carry_out}
use Rattle.moves.proofs.Sets.{occ, occ-out}
use Rattle.moves.specs.CarryOut.{carry_out}
use Rattle.moves.specs.Move.{Legal, Separates}
use Rattle.moves.specs.Sets.{In}

pub member_lt : (size n : ℕ) (marks : List ℕ) → SoundMarks size n marks → (p : ℕ) → Member marks p → p < 2 ^ n
member_lt size n marks s p m = go (dec_lt p (2 ^ n))
  where
    go : Dec (p < 2 ^ n) → p < 2 ^ n
    go (yes l) = l
    go (no l) = absurd (omega (arith, s.high p (omega arith)))

-- the sum over the parities with all of three wires, modulo 2; wires may repeat
unfoldable third : List ℕ → ℕ → ℕ → ℕ → ℕ
third w i j k = weighted_sum w (λ p. bit p i * bit p j * bit p k) % 2

-- the sums behind l, q and c are among these: b * b is b
third_one : (w : List ℕ) (i : ℕ) → weighted_sum w (λ p. bit p i) % 2 ≡ third w i i i
unfolding third weighted_sum
third_one w i =
    sum-mod 2 (length w) (λ p. get_or w p 0 * bit p i) (λ p. get_or w p 0 * (bit p i * bit p i * bit p i))
    (λ p l. cube (get_or w p 0) (bit p i) (bit-lt p i))
  where
    cube : (m b : ℕ) → b < 2 → m * b % 2 ≡ m * (b * b * b) % 2
    cube m zero h = refl
    cube m (suc zero) h = refl
    cube m (suc (suc b)) h = absurd (omega arith)

third_two : (w : List ℕ) (i j : ℕ) → weighted_sum w (λ p. bit p i * bit p j) % 2 ≡ third w i i j
unfolding third weighted_sum
third_two w i j =
    sum-mod 2 (length w) (λ p. get_or w p 0 * (bit p i * bit p j)) (λ p. get_or w p 0 * (bit p i * bit p i * bit p j))
    (λ p l. square (get_or w p 0) (bit p i) (bit p j) (bit-lt p i))
  where
    square : (m b c : ℕ) → b < 2 → m * (b * c) % 2 ≡ m * (b * b * c) % 2
    square m zero c h = ap (λ (x : ℕ). x % 2) (omega arith)
    square m (suc zero) c h = ap (λ (x : ℕ). x % 2) (omega arith)
    square m (suc (suc b)) c h = absurd (omega arith)

same_signature : (n : ℕ) (v w : List ℕ) → ((i j k : ℕ) → i < n → j < n → k < n → third v i j k ≡ third w i j k) → SameSignature n v w
unfolding third
same_signature n v w h =
    (signature_sums n v w).1
    (record {
      l = λ i li. third_one v i ∙ h i i i li li li ∙ sym (third_one w i);
      q = λ i j ij lj. let li : i < n = omega arith in third_two v i j ∙ h i i j li li lj ∙ sym (third_two w i j);
      c = λ i j k ij jk lk. h i j k (omega arith) (omega arith) lk;
    })

-- a z that separates members is below 2 ^ n
pub separated_lt : (size n : ℕ) (marks : List ℕ) → SoundMarks size n marks → (z : ℕ) (Y : List ℕ) → ((y : ℕ) → In y Y → Member marks y)
    → Separates marks z Y → z < 2 ^ n
separated_lt size n marks sound z Y marked s =
    rw s.z_is
    (xor_lt n s.a s.b (member_lt size n marks sound s.a (marked s.a s.a_in))
    (member_lt size n marks sound s.b s.b_member))

-- one legal move of sound marks
module _ (size n most : ℕ) (room : 2 ^ n ≤ size) (marks : List ℕ) (sound : SoundMarks size n marks) (z : ℕ) (Y : List ℕ)
    (legal : Legal most n marks z Y) where
  pub y_lt : Below (2 ^ n) Y
  y_lt i l = member_lt size n marks sound (get_or Y i 0) (legal.marked (get_or Y i 0) (i, l, refl))

  pub a_member : Member marks legal.separates.a
  a_member = legal.marked legal.separates.a legal.separates.a_in

  pub z_lt : z < 2 ^ n
  z_lt = separated_lt size n marks sound z Y legal.marked legal.separates

  pub move_fits : Fits marks z Y
  move_fits =
      let e : length marks ≡ size = sound.long in
      record {
        z_fits = omega (arith, z_lt);
        fits = λ i l. omega (arith, y_lt i l);
        shifted = λ i l. omega (arith, xor_lt n (get_or Y i 0) z (y_lt i l) z_lt);
      }

  third_kept : (i j k : ℕ) → i < n → j < n → k < n → third (carry_out marks z Y) i j k ≡ third marks i j k
  unfolding third
  third_kept i j k li lj lk =
      let c : ℕ → ℕ = λ p. bit p i * bit p j * bit p k in
      sum-carry_out marks z Y c move_fits (rw (bit-of_zero i) (omega arith))
      ∙ off (weighted_sum marks c) (sum_over (λ y. c y + c (bit_xor y z)) Y + length Y * c z)
      (cubic z i j k Y legal.balanced.zero_xor (triples_all n z Y legal.balanced i j k li lj lk))
    where
      off : (d e : ℕ) → e % 2 ≡ 0 → (d + e) % 2 ≡ d % 2
      off d e h = omega arith

  pub keeps : SameSignature n (carry_out marks z Y) marks
  keeps = same_signature n (carry_out marks z Y) marks third_kept

  -- from 2 ^ n up nothing is touched
  occ-high : (p : ℕ) → 2 ^ n ≤ p → occ p Y ≡ 0
  occ-high p h = occ-out p Y (λ t. omega (arith, y_lt t.0 t.1, t.2))

  shift_high : (p : ℕ) → 2 ^ n ≤ p → 2 ^ n ≤ bit_xor p z
  shift_high p h = go (dec_lt (bit_xor p z) (2 ^ n))
    where
      go : Dec (bit_xor p z < 2 ^ n) → 2 ^ n ≤ bit_xor p z
      go (yes l) = absurd (omega (arith, xor_lt n (bit_xor p z) z l z_lt, xor_cancel p z))
      go (no l) = omega arith

  high_kept : (p : ℕ) → 2 ^ n ≤ p → weight (carry_out marks z Y) p ≡ 0
  high_kept p h = go (dec_lt p (length marks))
    where
      go : Dec (p < length marks) → weight (carry_out marks z Y) p ≡ 0
      go (yes l) =
          mark_carry_out marks z Y p move_fits (sound.bits p) l (omega (arith, pow_pos n))
          ∙ rw (sound.high p h, occ-high p h, occ-high (bit_xor p z) (shift_high p h), delta-other p z (omega (arith, z_lt)))
          (omega arith)
      go (no l) = get_or-eq_default (carry_out marks z Y) 0 (rw (carry_out-length marks z Y) (omega arith))

  pub sound_kept : SoundMarks size n (carry_out marks z Y)
  sound_kept =
      record {
        long = carry_out-length marks z Y ∙ sound.long;
        bits = λ p. carry_out-bits marks z Y p (sound.bits p);
        none = clear_carry_out marks z Y;
        high = high_kept;
      }
