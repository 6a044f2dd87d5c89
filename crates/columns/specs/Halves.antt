-- What is said of the columns for a wire t, whatever the z.
use Rattle.std.specs.Prelude.{None, Option, Some, List, ◌≢◌, ◌≡◌, ◌⊎◌, suc, ℕ, get_or, length}
use Rattle.std.specs.Int.Bits.{bit_xor}
use Rattle.circuit.specs.Limits.{max_wires, product_bits}
use Rattle.circuit.specs.Sound.{weight}
use Rattle.columns.specs.Table.{ProductEntry}
use Rattle.columns.specs.declared.halves.Half.{Half}
use Rattle.echelon.specs.Columns.{holding}
use Rattle.echelon.specs.Slots.{OpensSlot, Within}
use Rattle.echelon.specs.declared.basis.Slots.{Slots}
use Rattle.gf2.specs.Bit.{bit}
use Rattle.gf2.specs.Echelon.{Covers, held}
use Rattle.moves.specs.Column.{column}
use Rattle.moves.specs.Sets.{In}

-- y is one of the members without wire t
abbrev pub Without : List ℕ → ℕ → ℕ → Type 0
Without ys t y = In y ys × (bit y t ≡ 0)

-- whatever z and the tags are, the slots cover their columns and tags; so it is where each column opened a slot, for no z changes these
abbrev pub HalfApart : List ℕ → ℕ → List ℕ → Type 0
HalfApart ys t vec = (z : ℕ) (τ : ℕ → ℕ) → Covers product_bits (Without ys t) (column max_wires z t) τ vec

-- the slots in the mask are theirs, where they are known to be apart
pub record HalfIn (ys : List ℕ) (t : ℕ) (half : Half) : Type 0 where
  pub known : (mask : ℕ) → half.apart ≡ Some mask → HalfApart ys t (held mask half.slots.vec)
  pub within : (mask : ℕ) → half.apart ≡ Some mask → Within mask half.slots.filled

-- all that the mask named is named still, and every part of that holds what it held
pub record Keeps (slots slots' : Slots) : Type 0 where
  pub wider : Within slots.filled slots'.filled
  pub kept : (g : ℕ) → Within g slots.filled → held g slots'.vec ≡ held g slots.vec

-- the slots of the half are as they were
pub record HalfStays (half half' : Half) : Type 0 where
  pub apart : half'.apart ≡ half.apart
  pub within : (mask : ℕ) → half.apart ≡ Some mask → Within mask half'.slots.filled
  pub kept : (mask : ℕ) → half.apart ≡ Some mask → held mask half'.slots.vec ≡ held mask half.slots.vec

-- y names t and has no partner, and r is where that would be; or it is nothing, and y does not name t or its partner is marked
abbrev pub BesideSingle : List ℕ → ℕ → ℕ → ℕ → Option ℕ → Type 0
BesideSingle marks z t y (Some p) = (p ≡ bit_xor y z) × (bit y t ≡ 1) × (weight marks (bit_xor y z) ≡ 0)
BesideSingle marks z t y None = (bit y t ≢ 1) ⊎ (weight marks (bit_xor y z) ≢ 0)

-- P y r: r is what is picked for y. For each of the first i members a parity is picked, whose entry opened a slot, or none is
pub data OpenedTo (P : ℕ → Option ℕ → Type 0) (ys vec₀ : List ℕ) : ℕ → List ℕ → Type 0 where
  start : OpenedTo P ys vec₀ 0 vec₀
  passed : {i : ℕ} {vec : List ℕ} → OpenedTo P ys vec₀ i vec → P (get_or ys i 0) None → OpenedTo P ys vec₀ (suc i) vec
  opened : {i p v : ℕ} {vec vec' : List ℕ} → OpenedTo P ys vec₀ i vec → P (get_or ys i 0) (Some p) → ProductEntry p v → OpensSlot v vec vec'
      → OpenedTo P ys vec₀ (suc i) vec'

-- so it was for all of them
abbrev pub AllOpened : (ℕ → Option ℕ → Type 0) → List ℕ → Slots → Slots → Type 0
AllOpened P ys slots slots' = OpenedTo P ys (holding slots) (length ys) (holding slots')
