-- Slots named by a mask: what they hold, one more filled, and changes that the mask does not see.
use mathlib.Core.List.{List}
use mathlib.Core.Logic.{◌≢◌, ◌⊎◌, inl, inr}
use mathlib.Core.Path.{◌∙◌, ◌≡◌, ap, ap₂, sym}
use Prim.Native.Nat.{◌*◌, ◌<◌, ◌^◌, ◌≤◌, ℕ}
use native.Mathlib.Decide.{dec_lt, ℕ_discrete}
use native.Mathlib.Nat.{mul-zero, one-mul, zero-mul}
use native.Mathlib.Omega.{arith}
use lib.Bits.{bit_xor}
use lib.ListN.{get_or-eq_default, get_or, length, length-replicate, length-set, replicate, set}
use lib.Seq.{ext_get_or, get_or-set_other, get_or-set_same}
use Rattle.gf2.proofs.Bit.{bit-lt, bit-of_zero, bit-pow_other, bit-pow_same, bit-values, bit-xor}
use Rattle.gf2.proofs.Table.{get_d_tabulate, get_or-zeros, length-tabulate}
use Rattle.gf2.specs.Bit.{bit}
use Rattle.gf2.specs.Echelon.{held}

pub held_long : (filled : ℕ) (vec : List ℕ) → length (held filled vec) ≡ length vec
unfolding held
held_long filled vec = length-tabulate (length vec) (λ s. bit filled s * get_or vec s 0)

pub held_at : (filled : ℕ) (vec : List ℕ) (s : ℕ) → get_or (held filled vec) s 0 ≡ bit filled s * get_or vec s 0
unfolding held
held_at filled vec s = go (dec_lt s (length vec))
  where
    go : Dec (s < length vec) → get_or (held filled vec) s 0 ≡ bit filled s * get_or vec s 0
    go (yes l) = get_d_tabulate (length vec) (λ i. bit filled i * get_or vec i 0) s l
    go (no l) =
        let past : length vec ≤ s = omega arith in
        let past_held : length (held filled vec) ≤ s = omega (arith, held_long filled vec) in
        get_or-eq_default (held filled vec) 0 past_held ∙ sym (rw (get_or-eq_default vec 0 past) (mul-zero (bit filled s)))

-- named, or not
pub held_on : (filled : ℕ) (vec : List ℕ) (s : ℕ) → bit filled s ≡ 1 → get_or (held filled vec) s 0 ≡ get_or vec s 0
held_on filled vec s e = held_at filled vec s ∙ rw e (one-mul (get_or vec s 0))

pub held_off : (filled : ℕ) (vec : List ℕ) (s : ℕ) → bit filled s ≡ 0 → get_or (held filled vec) s 0 ≡ 0
held_off filled vec s e = held_at filled vec s ∙ rw e (zero-mul (get_or vec s 0))

-- lists that agree where the mask names them
pub held_same : (filled : ℕ) (vec vec' : List ℕ) → length vec' ≡ length vec
    → ((s : ℕ) → bit filled s ≡ 1 → get_or vec' s 0 ≡ get_or vec s 0) → held filled vec' ≡ held filled vec
held_same filled vec vec' long h =
    ext_get_or 0 (held filled vec') (held filled vec) (held_long filled vec' ∙ long ∙ sym (held_long filled vec))
    (λ s l. go s (bit-values (bit filled s) (bit-lt filled s)))
  where
    go : (s : ℕ) → (bit filled s ≡ 0) ⊎ (bit filled s ≡ 1) → get_or (held filled vec') s 0 ≡ get_or (held filled vec) s 0
    go s (inl e) = held_off filled vec' s e ∙ sym (held_off filled vec s e)
    go s (inr e) = held_on filled vec' s e ∙ h s e ∙ sym (held_on filled vec s e)

-- the mask 0 names nothing
pub held_none : (vec : List ℕ) → held 0 vec ≡ replicate (length vec) 0
held_none vec =
    ext_get_or 0 (held 0 vec) (replicate (length vec) 0) (held_long 0 vec ∙ sym (length-replicate (length vec) 0))
    (λ s l. held_off 0 vec s (bit-of_zero s) ∙ sym (get_or-zeros (length vec) s))

-- slot s, not named so far, is filled and named
module _ (filled : ℕ) (vec : List ℕ) (s x : ℕ) (l : s < length vec) (off : bit filled s ≡ 0) where
  own : bit (bit_xor filled (2 ^ s)) s ≡ 1
  own = omega (arith, bit-xor filled (2 ^ s) s, bit-pow_same s, off)

  pub other : (j : ℕ) → j ≢ s → bit (bit_xor filled (2 ^ s)) j ≡ bit filled j
  other j ne = omega (arith, bit-xor filled (2 ^ s) j, bit-pow_other s j (λ e. ne (sym e)), bit-lt filled j)

  pub held_put : held (bit_xor filled (2 ^ s)) (set vec s x) ≡ set (held filled vec) s x
  held_put =
      ext_get_or 0 (held (bit_xor filled (2 ^ s)) (set vec s x)) (set (held filled vec) s x)
      (held_long (bit_xor filled (2 ^ s)) (set vec s x) ∙ length-set vec s x
      ∙ sym (length-set (held filled vec) s x ∙ held_long filled vec))
      (λ j h. go j (ℕ_discrete j s))
    where
      go : (j : ℕ) → Dec (j ≡ s) → get_or (held (bit_xor filled (2 ^ s)) (set vec s x)) j 0 ≡ get_or (set (held filled vec) s x) j 0
      go j (yes e) =
          rw e (held_on (bit_xor filled (2 ^ s)) (set vec s x) s own ∙ get_or-set_same vec s x 0 l
          ∙ sym (get_or-set_same (held filled vec) s x 0 (rw (held_long filled vec) l)))
      go j (no ne) =
          held_at (bit_xor filled (2 ^ s)) (set vec s x) j
          ∙ ap₂ (λ (a b : ℕ). a * b) (other j ne) (get_or-set_other vec s j x 0 ne)
          ∙ sym (held_at filled vec j) ∙ sym (get_or-set_other (held filled vec) s j x 0 ne)

  -- all that were named are
  pub still_named : (j : ℕ) → bit filled j ≡ 1 → bit (bit_xor filled (2 ^ s)) j ≡ 1
  still_named j e = go (ℕ_discrete j s)
    where
      go : Dec (j ≡ s) → bit (bit_xor filled (2 ^ s)) j ≡ 1
      go (yes d) = rw d own
      go (no ne) = other j ne ∙ e

  -- and of a mask of these nothing changed
  pub unseen_put : (g : ℕ) → ((j : ℕ) → bit g j ≡ 1 → bit filled j ≡ 1) → held g (set vec s x) ≡ held g vec
  unseen_put g inside =
      held_same g vec (set vec s x) (length-set vec s x)
      (λ j e. get_or-set_other vec s j x 0 (λ d. omega (arith, off, ap (bit filled) d, inside j e)))
