-- What the functions that flip marks ask and leave: the marks, and how many of them differ from those before the move.
use Rattle.std.specs.Prelude.{List, ◌≢◌, ◌≡◌, ◌*◌, ◌+◌, ◌<◌, ◌≤◌, suc, zero, ℕ, length, set}
use Rattle.circuit.specs.Limits.{max_members, max_wires, parities, table_bytes}
use Rattle.circuit.specs.Sound.{SoundMarks, weight}
use Rattle.moves.specs.CarryOut.{differing, flip_if}
use Rattle.legality.specs.Tested.{AllMembers}

-- of a legal move: the marks are sound, z is a parity other than 0, and Y has not too many, all of them members
pub record Flippable (marks : List ℕ) (z : ℕ) (Y : List ℕ) : Type 0 where
  pub sound : SoundMarks parities max_wires marks
  pub some : z ≢ 0
  pub fits : z < parities
  pub few : length Y ≤ max_members
  pub members : AllMembers marks Y

-- the marks have become these, and so many differ
pub record Flips (these marks marks' : List ℕ) (differ : ℕ) : Type 0 where
  pub are : marks' ≡ these
  pub counted : differ ≡ differing marks marks'

-- ---- the mark of z, and then mark 0; so many marks differ before each

-- the mark of z may be flipped: it differs where mark 0 does, so that enough marks differ for it to be taken off
pub record ZFlippable (marks : List ℕ) (z differ : ℕ) : Type 0 where
  pub fits : z < parities
  pub enough : 2 * weight marks 0 ≤ differ + 1
  pub few : differ ≤ table_bytes

-- how many differ then, where Y has an odd number, and where not
abbrev pub OddCounted : ℕ → ℕ → ℕ → ℕ → Type 0
OddCounted zero mark differ r = r ≡ differ
OddCounted (suc odd) mark differ r = r + 2 * mark ≡ differ + 1

-- the mark of z is flipped where Y has an odd number, and r marks differ then
pub record FlipsIfOdd (odd z differ : ℕ) (marks marks' : List ℕ) (r : ℕ) : Type 0 where
  pub are : marks' ≡ flip_if odd marks z
  pub counted : OddCounted odd (weight marks 0) differ r

-- mark 0 may be cleared: where it is 1, it is one of those that differ
pub record Clearable (marks : List ℕ) (differ : ℕ) : Type 0 where
  pub enough : weight marks 0 ≤ differ

-- mark 0 is cleared, and r marks differ then
pub record Clears (differ : ℕ) (marks marks' : List ℕ) (r : ℕ) : Type 0 where
  pub are : marks' ≡ set marks 0 0
  pub counted : r + weight marks 0 ≡ differ
