-- What naming a set promises.
use Rattle.std.specs.Prelude.{List, None, Option, Some, ◌≡◌, ◌+◌, ◌<◌, ◌≤◌, ℕ, get_or, length}
use Rattle.std.specs.Int.Bits.{bit_xor}
use Rattle.circuit.specs.Limits.{max_members, parities, product_bits, table_bytes}
use Rattle.circuit.specs.OddSet.{member_count}
use Rattle.gf2.specs.Selection.{combine}
use Rattle.moves.specs.Log.{as_cells}
use Rattle.moves.specs.Pair.{PairIn, mended, named_with}
use Rattle.moves.specs.Sets.{listed}

-- marks of a set that is small enough for a move
pub record Few (set : List ℕ) : Type 0 where
  pub long : length set ≡ table_bytes
  pub bits : (p : ℕ) → get_or set p 0 < 2
  pub few : member_count set ≤ max_members

-- the marks of the members of the slots that m names, and of a
abbrev pub set_with : ℕ → ℕ → List ℕ → List ℕ
set_with a m member = named_with parities member m product_bits a

-- which are few enough
pub record SetNamed (a m : ℕ) (member set : List ℕ) : Type 0 where
  pub is : set ≡ set_with a m member
  pub small : Few set

-- nothing is marked from k up
abbrev pub NoneFrom : ℕ → List ℕ → Type 0
NoneFrom k set = (p : ℕ) → k ≤ p → get_or set p 0 ≡ 0

-- the xor of them all
abbrev pub total_with : ℕ → ℕ → List ℕ → ℕ
total_with a m member = bit_xor (combine m member) a

-- all that is said of them: the marks, their xor, and a number that none of them is above
pub record NamesSet (a m : ℕ) (member set : List ℕ) (total top : ℕ) : Type 0 where
  pub named : SetNamed a m member set
  pub total_is : total ≡ total_with a m member
  pub fits : top < parities
  pub none : NoneFrom (top + 1) set

-- that set has no one of a pair
abbrev pub NoPair : List ℕ → ℕ → ℕ → ℕ → List ℕ → Type 0
NoPair marks z a m member = (y : ℕ) → PairIn marks z (set_with a m member) y → ⊥

-- a set for a move, of numbers below `end`
pub record FewBelow (end : ℕ) (set : List ℕ) : Type 0 where
  pub small : Few set
  pub inside : end ≤ parities
  pub none : NoneFrom end set

-- the cells of a move with z and the marked numbers
abbrev pub listed_cells : ℕ → List ℕ → List ℕ
listed_cells z set = as_cells max_members z (listed parities (λ p. get_or set p 0))

-- the set of m and a has one of a pair, y, and the cells are those of the move with that set mended
pub record MoveOf (marks : List ℕ) (z a m : ℕ) (member cells : List ℕ) : Type 0 where
  pub y : ℕ
  pub pair : PairIn marks z (set_with a m member) y
  pub is : cells ≡ listed_cells z (mended (total_with a m member) z y (set_with a m member))

-- a move is given, or there is none
abbrev pub WritesMove : List ℕ → ℕ → ℕ → ℕ → List ℕ → Option (List ℕ) → Type 0
WritesMove marks z a m member (Some cells) = MoveOf marks z a m member cells
WritesMove marks z a m member None = NoPair marks z a m member

-- some y of the set whose partner is a member; or there is none
abbrev pub PairAt : List ℕ → ℕ → List ℕ → Option ℕ → Type 0
PairAt marks z set (Some y) = (y < parities) × PairIn marks z set y
PairAt marks z set None = (y : ℕ) → PairIn marks z set y → ⊥
