-- Document 01, "Legal moves": the cells of a move, a log of moves, and move k of a log.
-- `most` is the most that Y may have, `size` the cells of a move.
use Rattle.std.specs.Prelude.{cond, List, [], ◌++◌, ◌∷◌, ◌≡◌, ◌*◌, ◌+◌, ◌-◌, ◌<◌, ◌≤◌, suc, zero, ℕ}
use Rattle.std.specs.Prelude.{leb, drop, get_or, length, replicate, take}
use Rattle.circuit.specs.Limits.{move_head}
use Rattle.moves.specs.Move.{Legal, NoneBelow}

-- z, the number in Y, Y ascending, zeros: most + move_head cells in all
unfoldable pub as_cells : ℕ → ℕ → List ℕ → List ℕ
as_cells most z Y = z ∷ length Y ∷ (Y ++ replicate (most - length Y) 0)

-- the z and the Y that cells say
abbrev pub z_of : List ℕ → ℕ
z_of cells = get_or cells 0 0

abbrev pub set_of : List ℕ → List ℕ
set_of cells = take (get_or cells 1 0) (drop move_head cells)

-- the cells from a place on are zeros
abbrev pub ZeroFrom : ℕ → List ℕ → Type 0
ZeroFrom start cells = (i : ℕ) → start ≤ i → i < length cells → get_or cells i 0 ≡ 0

-- the cells of some move: z, the number in Y, at most `most` in Y, zeros
pub record MoveForm (most : ℕ) (cells : List ℕ) : Type 0 where
  pub long : length cells ≡ most + move_head
  pub few : get_or cells 1 0 ≤ most
  pub zeros : ZeroFrom (get_or cells 1 0 + move_head) cells

-- the cells are those of a legal move for these marks
pub record LegalCells (most n : ℕ) (marks cells : List ℕ) : Type 0 where
  pub z : ℕ
  pub Y : List ℕ
  pub is : cells ≡ as_cells most z Y
  pub legal : Legal most n marks z Y

-- and no legal move for these marks has a smaller z
pub record SmallestCells (most n : ℕ) (marks cells : List ℕ) : Type 0 where
  pub legal : LegalCells most n marks cells
  pub smallest : NoneBelow most n marks (z_of cells)

-- the cells of move k, counted from 0, as part of the log; empty if the log has fewer than size·k + size cells
unfoldable pub move_at : ℕ → List ℕ → ℕ → List ℕ
move_at size log k = cond (leb (size * k + size) (length log)) (take size (drop (size * k) log)) []

-- from its start the log holds the moves in order: the first m of them
unfoldable pub logged : ℕ → List ℕ → ℕ → List (List ℕ)
logged size log zero = []
logged size log (suc m) = logged size log m ++ (move_at size log m ∷ [])
