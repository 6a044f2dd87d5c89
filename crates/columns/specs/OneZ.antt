-- What the functions say of one z with a wire t.
use Rattle.std.specs.Prelude.{List, Option, Some, ◌⊎◌, ◌≡◌, ◌*◌, ◌+◌, ◌-◌, ◌<◌, ◌≤◌, ℕ, get_or, length}
use Rattle.std.specs.Int.Bits.{bit_xor}
use Rattle.circuit.specs.Limits.{max_members, max_wires, parities}
use Rattle.circuit.specs.OddSet.{Member}
use Rattle.circuit.specs.Sound.{SoundMarks, weight}
use Rattle.moves.specs.Move.{Legal}
use Rattle.moves.specs.Pair.{Stands}
use Rattle.moves.specs.Sets.{In}

-- ys are the members of sound marks
pub record Members (marks ys : List ℕ) : Type 0 where
  pub sound : SoundMarks parities max_wires marks
  pub few : length ys ≤ parities
  pub member : (y : ℕ) → In y ys → Member marks y
  pub listed : (y : ℕ) → Member marks y → In y ys

-- z is the xor of two members
pub record HasPair (marks : List ℕ) (z : ℕ) : Type 0 where
  pub a : ℕ
  pub member : Member marks a
  pub partner : Member marks (bit_xor a z)

-- no move with this z is legal
abbrev pub NoneWith : List ℕ → ℕ → Type 0
NoneWith marks z = (Y : List ℕ) → Legal max_members max_wires marks z Y → ⊥

-- ---- turns

-- y stands for its column, and its turn is i: one of a pair has that of its place among the members, and the others come after all places
pub record Turn (marks ys : List ℕ) (z t i y : ℕ) : Type 0 where
  pub stands : Stands marks z t y
  pub at : ℕ
  pub inside : at < length ys
  pub is : get_or ys at 0 ≡ y
  pub turn : at + (1 - weight marks (bit_xor y z)) * length ys ≡ i

-- its turn came before i
abbrev pub Had : List ℕ → List ℕ → ℕ → ℕ → ℕ → ℕ → Type 0
Had marks ys z t i y = (k : ℕ) × (k < i) × Turn marks ys z t k y

-- r has turn i, and no other has; it is nothing where none has
pub record TurnOf (marks ys : List ℕ) (z t i : ℕ) (r : Option ℕ) : Type 0 where
  pub its : (y : ℕ) → r ≡ Some y → Turn marks ys z t i y
  pub only : (y : ℕ) → Turn marks ys z t i y → r ≡ Some y

-- r turns are to be asked: all of them; or fewer, where no move with this z is legal
pub record ToAsk (marks ys : List ℕ) (z r : ℕ) : Type 0 where
  pub fits : r ≤ 2 * length ys
  pub all : (r ≡ 2 * length ys) ⊎ NoneWith marks z
