-- The conditions that one test each decides.
use Rattle.std.specs.Prelude.{List, ◌<◌, ◌≡◌, ℕ, get_or, length}
use Rattle.circuit.specs.Limits.{max_members, max_wires}
use Rattle.circuit.specs.OddSet.{Member}
use Rattle.moves.specs.Log.{LegalCells, MoveForm, set_of, z_of}
use Rattle.moves.specs.Sets.{Ascending, In}

-- all of Y are members
abbrev pub AllMembers : List ℕ → List ℕ → Type 0
AllMembers marks Y = (y : ℕ) → In y Y → Member marks y

-- Y is a set of members: each above the one before
abbrev pub MemberSet : List ℕ → List ℕ → Type 0
MemberSet marks Y = Ascending Y × AllMembers marks Y

-- b is a member and not in Y
abbrev pub Outside : List ℕ → List ℕ → ℕ → Type 0
Outside marks Y b = Member marks b × (In b Y → ⊥)

-- every number is 0
abbrev pub IsZero : List ℕ → Type 0
IsZero cells = (i : ℕ) → i < length cells → get_or cells i 0 ≡ 0

-- cells of the form of a move say z and Y
pub record SaysMove (cells : List ℕ) (z : ℕ) (Y : List ℕ) : Type 0 where
  pub form : MoveForm max_members cells
  pub z_is : z ≡ z_of cells
  pub set_is : Y ≡ set_of cells

-- and the move is legal
pub record SaysLegal (marks cells : List ℕ) (z : ℕ) (Y : List ℕ) : Type 0 where
  pub legal : LegalCells max_members max_wires marks cells
  pub z_is : z ≡ z_of cells
  pub set_is : Y ≡ set_of cells
