-- What the functions of this crate promise of the slots.
use Rattle.std.specs.Prelude.{Bool, None, Option, Some, false, true, ◌≡◌, List, ℕ, set}
use Rattle.circuit.specs.Limits.{product_bits}
use Rattle.gf2.specs.Bit.{bit}
use Rattle.gf2.specs.Echelon.{Reached, Stopped, held}
use Rattle.echelon.specs.Slots.{LeadingBit, OpensSlot, Within}
use Rattle.echelon.specs.declared.Echelon.{Echelon}
use Rattle.echelon.specs.declared.basis.Reduced.{Reduced}
use Rattle.echelon.specs.declared.basis.Reduced.TheVariants.{Dependent, Independent}
use Rattle.echelon.specs.declared.basis.Slots.{Slots}

-- what the slots hold: the filled ones their numbers, the others nothing
abbrev pub holding : Slots → List ℕ
holding e = held e.filled e.vec

-- Dependent: v came down to 0. Independent: it was stopped at a slot that the mask does not name, with so much left
abbrev pub Reduces : Slots → ℕ → Reduced → Type 0
Reduces e v (Dependent used) = Reached (holding e) v 0 used
Reduces e v (Independent s left used) = (bit e.filled s ≡ 0) × Stopped product_bits (holding e) v s left used

-- the slot is empty, and a number with that leading bit may fill it
pub record MayOpen (e : Slots) (s left : ℕ) : Type 0 where
  pub unnamed : bit e.filled s ≡ 0
  pub leads : LeadingBit left s

-- it fills that slot, and all else that the mask named is as it was
pub record Fills (s left : ℕ) (e e' : Slots) : Type 0 where
  pub vec_is : holding e' ≡ set (holding e) s left
  pub wider : Within e.filled e'.filled
  pub kept : (g : ℕ) → Within g e.filled → held g e'.vec ≡ held g e.vec

-- v comes down to 0
abbrev pub Depends : Slots → ℕ → Type 0
Depends e v = (used : ℕ) × Reached (holding e) v 0 used

-- `grow`: where v opened a slot, the mask names it too; else v came down to 0, and nothing changed. The mask names all that it did, and
-- every part of that holds what it held
pub record Grows (v : ℕ) (e e' : Slots) (opened : Bool) : Type 0 where
  pub opens : opened ≡ true → OpensSlot v (holding e) (holding e')
  pub down : opened ≡ false → Depends e v
  pub same : opened ≡ false → e' ≡ e
  pub wider : Within e.filled e'.filled
  pub kept : (g : ℕ) → Within g e.filled → held g e'.vec ≡ held g e.vec

-- the column v was stopped at an empty slot, opens it, and is known there as that of y, made by what was taken off it
pub record Opens (y v : ℕ) (e e' : Echelon) : Type 0 where
  pub slot : OpensSlot v (holding e.slots) (holding e'.slots)
  pub by_is : e'.by ≡ set e.by slot.s slot.used
  pub member_is : e'.member ≡ set e.member slot.s y

-- `insert`: v came down to 0 and nothing changed, or it opened a slot
abbrev pub Inserts : ℕ → ℕ → Echelon → Echelon → Option ℕ → Type 0
Inserts y v e e' (Some used) = Reached (holding e.slots) v 0 used × (e' ≡ e)
Inserts y v e e' None = Opens y v e e'
