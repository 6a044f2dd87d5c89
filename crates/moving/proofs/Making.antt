-- Making moves: each one is written to the log and carried out on the marks; what holds after k of them.
use mathlib.Core.List.{List}
use mathlib.Core.Path.{ap, ap₂, ◌∙◌, ◌≡◌}
use Prim.Native.Nat.{◌*◌, ◌+◌, ◌-◌, ◌<◌, suc, ℕ, ◌≤◌}
use native.Mathlib.Numerals.{add-one}
use native.Mathlib.Omega.{arith}
use lib.ListN.{get_or, length}
use Rattle.circuit.proofs.OddSet.{members_sum}
use Rattle.circuit.proofs.Placing.{kept_all, kept_placed}
use Rattle.circuit.specs.Lent.{placed}
use Rattle.circuit.specs.Limits.{log_cells, max_members, max_wires, move_cells, parities}
use Rattle.circuit.specs.OddSet.{member_count}
use Rattle.circuit.specs.Sound.{SoundMarks}
use Rattle.circuit.specs.TableFaults.{Marked}
use Rattle.gf2.proofs.Sum.{sum-const, sum-front, sum-le}
use Rattle.moves.proofs.Laws.{limits_suffice, move_shrinks}
use Rattle.moves.proofs.Logs.{cells_length, cells_say, logged_length, logged_more}
use Rattle.moves.proofs.Replaying.{replays_more, replays_none, replays_shrinks, replays_sound, smallest_more, smallest_none}
use Rattle.moves.specs.CarryOut.{carry_out}
use Rattle.moves.specs.Log.{LegalCells, SmallestCells, logged, set_of, z_of}
use Rattle.moving.specs.Steps.{Made}

pub made_none : (n : ℕ) (m log : List ℕ) (k : ℕ) → k ≡ 0 → Made n m log k m log
unfolding logged
made_none n m log k e =
    rw e (record { replayed = replays_none max_members n m; smallest = smallest_none max_members n m; kept = kept_all log })

-- fewer members than marks: parity 0 is none
members_lt : (size n : ℕ) (marks : List ℕ) → 0 < size → SoundMarks size n marks → member_count marks < size
members_lt size n marks h0 s =
    let e : size ≡ suc (size - 1) = omega arith in
    rw (members_sum marks s.bits, s.long, e)
    (omega (
      arith,
      sum-front (size - 1) (λ p. get_or marks p 0),
      s.none,
      sum-le (size - 1) (λ p. get_or marks (suc p) 0) (λ p. 1) (λ p h. omega (arith, s.bits (suc p))),
      sum-const (size - 1) 1,
    ))

-- k moves made from the marks m, and a log that was long enough
pub record Turn (n : ℕ) (m before : List ℕ) (k : ℕ) (marks log : List ℕ) : Type 0 where
  pub first : Marked n m
  pub room : log_cells ≤ length before
  pub made : Made n m before k marks log

module _ {n : ℕ} {m before : List ℕ} {k : ℕ} {marks log : List ℕ} (turn : Turn n m before k marks log) where
  fits : n ≤ max_wires
  fits = turn.first.few

  pub still_marked : Marked n marks
  still_marked =
      record {
        some = turn.first.some;
        few = turn.first.few;
        sound =
            replays_sound parities n max_members (limits_suffice n fits).0 m (logged move_cells log k) marks turn.first.sound
            turn.made.replayed;
      }

  afforded : k + member_count marks ≤ member_count m
  afforded =
      omega (
        arith,
        replays_shrinks parities n max_members (limits_suffice n fits).0 m (logged move_cells log k) marks turn.first.sound
            turn.made.replayed,
        logged_length move_cells k log,
      )

  -- a legal move with the smallest z: there is room for it in the log, and it makes the odd set smaller
  module _ {cells : List ℕ} (found : SmallestCells max_members n marks cells) where
    abbrev f : LegalCells max_members n marks cells
    f = found.legal

    smaller : member_count (carry_out marks f.z f.Y) + 1 ≤ member_count marks
    smaller = move_shrinks parities n max_members (limits_suffice n fits).0 marks still_marked.sound f.z f.Y f.legal

    carried : carry_out marks (z_of cells) (set_of cells) ≡ carry_out marks f.z f.Y
    carried = let s = cells_say max_members f.z f.Y cells f.is in ap₂ (carry_out marks) s.0 s.1

    pub few_moves : k < parities
    few_moves = omega (arith, smaller, afforded, members_lt parities n m (omega arith) turn.first.sound)

    pub move_room : move_cells * k + move_cells ≤ length log
    move_room =
        omega (arith, smaller, afforded, members_lt parities n m (omega arith) turn.first.sound, turn.made.kept.long, turn.room)

    pub move_smaller : {marks' : List ℕ} → marks' ≡ carry_out marks (z_of cells) (set_of cells) → member_count marks' < member_count marks
    move_smaller e = rw (e ∙ carried) (omega (arith, smaller))

    pub cells_long : length cells ≡ move_cells
    cells_long = ap length f.is ∙ cells_length max_members f.z f.Y f.legal.few

    pub made_more : {k' : ℕ} {marks' log' : List ℕ} → k' ≡ k + 1 → marks' ≡ carry_out marks (z_of cells) (set_of cells)
        → log' ≡ placed log (move_cells * k) cells → Made n m before k' marks' log'
    made_more ek em el =
        let at : move_cells * (k + 1) ≡ move_cells * k + length cells = omega (arith, cells_long) in
        record {
          replayed =
              rw (ek, em ∙ carried, el, add-one k, logged_more move_cells k log cells cells_long move_room)
              (replays_more max_members n m (logged move_cells log k) marks cells f turn.made.replayed);
          smallest =
              rw (ek, el, add-one k, logged_more move_cells k log cells cells_long move_room)
              (smallest_more max_members n m (logged move_cells log k) marks cells turn.made.replayed found.smallest
              turn.made.smallest);
          kept = rw (ek, el, at) (kept_placed turn.made.kept cells (omega (arith, move_room, cells_long)));
        }
