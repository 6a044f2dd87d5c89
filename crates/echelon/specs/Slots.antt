-- What is said of slots and masks as plain numbers and lists.
use Rattle.std.specs.Prelude.{List, ◌≡◌, ◌<◌, ◌^◌, ◌≤◌, length, suc, ℕ, set}
use Rattle.circuit.specs.Limits.{parities, product_bits}
use Rattle.gf2.specs.Over.{Below}
use Rattle.gf2.specs.Bit.{bit}
use Rattle.gf2.specs.Echelon.{AllHold, Shape, Stopped, held}

-- the leading bit of x is bit s, and s is a slot
pub record LeadingBit (x s : ℕ) : Type 0 where
  pub slot : s < product_bits
  pub lo : 2 ^ s ≤ x
  pub hi : x < 2 ^ suc s

-- the slots that a mask names, each of which holds something
pub record Masked (filled : ℕ) (vec : List ℕ) : Type 0 where
  pub shape : Shape product_bits (held filled vec)
  pub some : AllHold vec filled

-- each slot that the mask g names is named by `filled` too
abbrev pub Within : ℕ → ℕ → Type 0
Within g filled = (s : ℕ) → bit g s ≡ 1 → bit filled s ≡ 1

-- the column v was stopped at an empty slot, which it opens
pub record OpensSlot (v : ℕ) (vec vec' : List ℕ) : Type 0 where
  pub s : ℕ
  pub left : ℕ
  pub used : ℕ
  pub stopped : Stopped product_bits vec v s left used
  pub vec_is : vec' ≡ set vec s left

-- the members beside the slots: parities
pub record SlotMembers (member : List ℕ) : Type 0 where
  pub long : length member ≡ product_bits
  pub below : Below parities member
