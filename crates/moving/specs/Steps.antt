-- What making moves leaves.
use Rattle.std.specs.Prelude.{List, ◌*◌, ℕ}
use Rattle.circuit.specs.Lent.{KeptFrom}
use Rattle.circuit.specs.Limits.{max_members, move_cells}
use Rattle.moves.specs.Log.{logged}
use Rattle.moves.specs.Move.{NoneLegal}
use Rattle.moves.specs.Replay.{Replays, SmallestEach}

-- from the marks m and the log before, k moves have been made
pub record Made (n : ℕ) (m before : List ℕ) (k : ℕ) (marks log : List ℕ) : Type 0 where
  pub replayed : Replays max_members n m (logged move_cells log k) marks
  pub smallest : SmallestEach max_members n m (logged move_cells log k)
  pub kept : KeptFrom (move_cells * k) before log

-- all legal moves made: k of them, and none is left
pub record AllMade (n : ℕ) (m before : List ℕ) (k : ℕ) (marks log : List ℕ) : Type 0 where
  pub made : Made n m before k marks log
  pub none : NoneLegal max_members n marks
