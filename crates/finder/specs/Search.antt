-- What the finder's parts promise.
use Rattle.std.specs.Prelude.{List, None, Option, Some, ◌≡◌, ◌≤◌, ℕ, length}
use Rattle.circuit.specs.Limits.{max_members, max_wires, parities}
use Rattle.circuit.specs.Sound.{weight}
use Rattle.moves.specs.Log.{SmallestCells}
use Rattle.moves.specs.Move.{NoneBelow, NoneLegal}
use Rattle.moves.specs.Sets.{listed}

-- these are the members below `size`, in ascending order
pub record Gathered (size : ℕ) (marks ys : List ℕ) : Type 0 where
  pub fits : length ys ≤ parities
  pub are : ys ≡ listed size (weight marks)

-- on all wires: a legal move with the smallest z, or none is legal with a z below `size`
abbrev pub Scanned : ℕ → List ℕ → Option (List ℕ) → Type 0
Scanned size marks (Some cells) = SmallestCells max_members max_wires marks cells
Scanned size marks None = NoneBelow max_members max_wires marks size

-- on n wires: a legal move with the smallest z, or none is legal
abbrev pub Searched : ℕ → List ℕ → Option (List ℕ) → Type 0
Searched n marks (Some cells) = SmallestCells max_members n marks cells
Searched n marks None = NoneLegal max_members n marks
