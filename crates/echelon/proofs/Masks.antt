-- The steps on the slots that a mask names: reducing, and a slot filled.
use mathlib.Core.List.{List}
use mathlib.Core.Logic.{◌≢◌, ◌⊎◌, inl, inr}
use mathlib.Core.Path.{◌∙◌, ◌≡◌, ap, refl, sym}
use Prim.Native.Nat.{◌%◌, ◌*◌, ◌/◌, ◌<◌, ◌^◌, suc, ℕ}
use native.Mathlib.Decide.{ℕ_discrete}
use native.Mathlib.Omega.{arith}
use lib.Bits.{bit_xor}
use lib.ListN.{get_or, length, length-set, set}
use lib.Pow.{pow_pos}
use lib.Seq.{get_or-set_other, get_or-set_same}
use Rattle.circuit.proofs.Steps.{shifted}
use Rattle.circuit.specs.Limits.{product_bits}
use Rattle.gf2.proofs.Basis.{covers_none}
use Rattle.gf2.proofs.Bit.{bit-lt, bit-of_zero, bit-values}
use Rattle.gf2.proofs.Held.{held_long, held_none, held_off, held_on, held_put, other, still_named, unseen_put}
use Rattle.gf2.specs.Bit.{bit}
use Rattle.gf2.specs.Echelon.{Lead, Reached, Stopped, held}
use Rattle.echelon.proofs.Slots.{falls, stops, taken}
use Rattle.echelon.specs.Slots.{LeadingBit, Masked, Within}

-- the mask 0, whatever the list
pub masked_none : (vec : List ℕ) → length vec ≡ product_bits → Masked 0 vec
masked_none vec long =
    record {
      shape = rw (held_none vec, long) (covers_none product_bits (λ y. 0) (λ y. 0) (λ y. ⊥) (λ y p. p)).shape;
      some = λ s e. absurd (omega (arith, bit-of_zero s));
    }

-- a mask of no other slots
module _ {filled : ℕ} {vec : List ℕ} (m : Masked filled vec) (g : ℕ) (inside : Within g filled) where
  part : (s : ℕ) → (bit g s ≡ 0) ⊎ (bit g s ≡ 1) → Lead s (get_or (held filled vec) s 0) → Lead s (get_or (held g vec) s 0)
  part s (inl e) l = rw (held_off g vec s e) (record { fits = pow_pos (suc s); leads = λ n. absurd (n refl) })
  part s (inr e) l = rw (held_on g vec s e) (rw (held_on filled vec s (inside s e)) at l)

  pub masked_part : Masked g vec
  masked_part =
      record {
        shape =
            record {
              long = held_long g vec ∙ sym (held_long filled vec) ∙ m.shape.long;
              lead = λ s l. part s (bit-values (bit g s) (bit-lt g s)) (m.shape.lead s l);
            };
        some = λ s e. m.some s (inside s e);
      }

pub masked_long : {filled : ℕ} {vec : List ℕ} → Masked filled vec → length vec ≡ product_bits
masked_long {filled} {vec} m = sym (held_long filled vec) ∙ m.shape.long

module _ {filled : ℕ} {vec : List ℕ} {left s : ℕ} (m : Masked filled vec) (b : LeadingBit left s) where
  -- the mask names the slot
  module _ (named : filled / 2 ^ s % 2 ≢ 0) where
    on : bit filled s ≡ 1
    unfolding bit
    on = omega arith

    holds : get_or (held filled vec) s 0 ≢ 0
    holds e = m.some s on (sym (held_on filled vec s on) ∙ e)

    pub masked_falls : bit_xor left (get_or vec s 0) < left
    masked_falls = rw (← (held_on filled vec s on)) (falls m.shape b holds)

    pub masked_takes : {v used : ℕ} → Reached (held filled vec) v left used
        → Reached (held filled vec) v (bit_xor left (get_or vec s 0)) (bit_xor used (2 ^ s))
    masked_takes r = rw (← (held_on filled vec s on)) (taken m.shape b holds r)

    -- as the machine shifts its bit
    pub machine_takes : {v used : ℕ} → Reached (held filled vec) v left used
        → Reached (held filled vec) v (bit_xor left (get_or vec s 0)) (bit_xor used (1 * 2 ^ s % 2 ^ 64))
    machine_takes r = let own : 1 * 2 ^ s % 2 ^ 64 ≡ 2 ^ s = shifted 64 s (omega (arith, b.slot)) in rw own (masked_takes r)

  -- it does not: the slot is opened
  module _ (unnamed : filled / 2 ^ s % 2 ≡ 0) where
    pub off : bit filled s ≡ 0
    unfolding bit
    off = unnamed

    pub stopped : {v used : ℕ} → Reached (held filled vec) v left used → Stopped product_bits (held filled vec) v s left used
    stopped r = stops m.shape b (held_off filled vec s off) r

-- a slot outside the mask is filled
module _ {filled : ℕ} {vec : List ℕ} {s left : ℕ} (m : Masked filled vec) (unnamed : bit filled s ≡ 0) (b : LeadingBit left s) where
  place : s < length vec
  place = rw (masked_long m) b.slot

  own_bit : 1 * 2 ^ s % 2 ^ 64 ≡ 2 ^ s
  own_bit = shifted 64 s (omega (arith, b.slot))

  pub filled_held : held (bit_xor filled (1 * 2 ^ s % 2 ^ 64)) (set vec s left) ≡ set (held filled vec) s left
  filled_held = rw own_bit (held_put filled vec s left place unnamed)

  pub filled_wider : Within filled (bit_xor filled (1 * 2 ^ s % 2 ^ 64))
  filled_wider = rw own_bit (still_named filled vec s left place unnamed)

  pub filled_kept : (g : ℕ) → Within g filled → held g (set vec s left) ≡ held g vec
  filled_kept = unseen_put filled vec s left place unnamed

  lead' : (i : ℕ) → i < product_bits → Dec (i ≡ s) → Lead i (get_or (set (held filled vec) s left) i 0)
  lead' i l (yes q) =
      rw (q, get_or-set_same (held filled vec) s left 0 (rw m.shape.long b.slot)) (record { fits = b.hi; leads = λ n. b.lo })
  lead' i l (no n) = rw (get_or-set_other (held filled vec) s i left 0 n) (m.shape.lead i l)

  pub filled_masked : Masked (bit_xor filled (1 * 2 ^ s % 2 ^ 64)) (set vec s left)
  filled_masked =
      rw own_bit (record {
        shape =
            rw (held_put filled vec s left place unnamed) (record {
              long = length-set (held filled vec) s left ∙ m.shape.long;
              lead = λ i l. lead' i l (ℕ_discrete i s);
            });
        some = λ j e. go j e (ℕ_discrete j s);
      })
    where
      go : (j : ℕ) → bit (bit_xor filled (2 ^ s)) j ≡ 1 → Dec (j ≡ s) → get_or (set vec s left) j 0 ≢ 0
      go j e (yes d) z =
          let x : left ≡ 0 = sym (get_or-set_same vec s left 0 place) ∙ ap (λ (i : ℕ). get_or (set vec s left) i 0) (sym d) ∙ z in
          omega (arith, b.lo, pow_pos s)
      go j e (no ne) z = m.some j (sym (other filled vec s left place unnamed j ne) ∙ e) (sym (get_or-set_other vec s j left 0 ne) ∙ z)
