-- The laws of the entries on one page: which calls `carry_out` accepts, and what the promises mean. The proofs are in the modules named.
use mathlib.Core.Bool.{Bool, false, true}
use mathlib.Core.List.{List, []}
use mathlib.Core.Logic.{◌↔◌, ◌≢◌}
use mathlib.Core.Path.{◌∙◌, ◌≡◌, ap, refl, sym}
use Prim.Native.Nat.{◌*◌, ◌+◌, ◌<◌, ◌≤◌, ℕ}
use native.Mathlib.Omega.{arith}
use lib.ListN.{drop, length, take}
use Rattle.std.specs.Prelude.{Err, Ok, Result}
use Rattle.circuit.proofs.Judging.{after_refusal, done_number, refusal_number, refuse_done, refused, refused_not_done}
use Rattle.circuit.proofs.Results.{numbered}
use Rattle.circuit.specs.Faults.{bad_move, refuse}
use Rattle.circuit.specs.Limits.{max_members, move_cells}
use Rattle.circuit.specs.Replies as reply
use Rattle.circuit.specs.Replies.{after, number_of}
use Rattle.circuit.specs.TableFaults.{Marked}
use Rattle.circuit.specs.Told.{number, told}
use Rattle.circuit.specs.declared.faults.Refusal.{Refusal}
use Rattle.moves.proofs.Deciding.{move_is, move_yes}
use Rattle.moves.proofs.Laws.{move_differs_few}
use Rattle.moves.proofs.Logs.{cells_checked, cells_say, move_short, move_whole}
use Rattle.moves.specs.CarryOut.{carry_out, differing}
use Rattle.moves.specs.Decide.{is_move}
use Rattle.moves.specs.Log.{LegalCells, as_cells, move_at, set_of, z_of}
use Rattle.moves.specs.Move.{Legal}
use Rattle.legality.proofs.Conditions.{set-few}
use Rattle.carry.proofs.Ways.{call_clear, verdict}
use Rattle.carry.specs.Entry.{CarriesOut, carry_fault, carry_reply, differ_of}

-- ---- what the cells say

-- the cells are a legal move exactly if they are the cells of the z and the Y that they say, and these are legal
pub legal_as_said : (most n : ℕ) (marks cells : List ℕ)
    → LegalCells most n marks cells ↔ ((cells ≡ as_cells most (z_of cells) (set_of cells)) × Legal most n marks (z_of cells) (set_of cells))
legal_as_said most n marks cells = (
  λ g. let s = cells_say most g.z g.Y cells g.is in (rw (s.0, s.1) g.is, rw (s.0, s.1) g.legal),
  λ p. record { z = z_of cells; Y = set_of cells; is = p.0; legal = p.1 },
)

-- ---- carry_out

-- a call without faults 1, 8 and 6: a wire count within its limits, and sound marks
pub carry_called : (n : ℕ) (marks : List ℕ) → (carry_fault n marks ≡ 0) ↔ Marked n marks
carry_called = call_clear

-- demand 1: nothing that is sound and legal is refused, nothing else is accepted
pub carry_accepts : (n : ℕ) (marks cells : List ℕ)
    → (carry_reply n marks cells ≡ reply.Done) ↔ (Marked n marks × LegalCells max_members n marks cells)
carry_accepts n marks cells = (
  λ e. let s = refuse_done (carry_fault n marks) 0 (verdict (is_move max_members n marks cells)) e in
      ((carry_called n marks).0 s.0, move_is max_members n marks cells (only_true (is_move max_members n marks cells) s.1)),
  λ c. ap (λ (f : ℕ). refuse f 0 (verdict (is_move max_members n marks cells))) ((carry_called n marks).1 c.0)
      ∙ ap verdict (move_yes max_members n marks cells c.1),
)
  where
    only_true : (t : Bool) → verdict t ≡ reply.Done → t ≡ true
    only_true true e = refl
    only_true false e = absurd (refused_not_done bad_move 0 e)

-- number 0 says done: a refusal has another
pub carry_number : (n : ℕ) (marks cells : List ℕ) {number place : ℕ} → carry_reply n marks cells ≡ reply.Refused number place → number ≢ 0
carry_number n marks cells {number} {place} =
    refusal_number (carry_fault n marks) 0 (verdict (is_move max_members n marks cells))
    (judged (is_move max_members n marks cells))
  where
    judged : (t : Bool) → verdict t ≡ reply.Refused number place → number ≢ 0
    judged true e = done_number e
    judged false e = let s : bad_move ≡ number = cc in omega arith

module _ (n : ℕ) (marks cells marks' : List ℕ) (r : Result ℕ Refusal) (promise : CarriesOut n marks cells marks' r) where
  -- a refusal leaves the marks as they were
  pub refusal_leaves : (refusal : Refusal) → r ≡ Err refusal → marks' ≡ marks
  refusal_leaves refusal e =
      promise.marks_left ∙ ap (λ (v : Result ℕ Refusal). after (number_of (told v)) (carry_out marks (z_of cells) (set_of cells)) marks) e
      ∙ sym (after_refusal (number refusal.fault) _ marks (numbered refusal.fault))

  -- the first fault of the call, with place 0
  pub refusal_says : carry_fault n marks ≢ 0 → told r ≡ reply.Refused (carry_fault n marks) 0
  refusal_says h = promise.reply ∙ refused (carry_fault n marks) 0 _ h

  -- a move that is done was legal
  pub done_legal : (differ : ℕ) → r ≡ Ok differ → Marked n marks × LegalCells max_members n marks cells
  done_legal differ e = (carry_accepts n marks cells).0 (sym promise.reply ∙ ap told e)

  -- as many marks differ as the move changes
  pub done_differ : (differ : ℕ) → r ≡ Ok differ → differ ≡ differing marks (carry_out marks (z_of cells) (set_of cells))
  done_differ differ e =
      sym (ap differ_of e) ∙ promise.differ
      ∙ ap (differing marks)
      (promise.marks_left ∙ ap (λ (v : Result ℕ Refusal). after (number_of (told v)) (carry_out marks (z_of cells) (set_of cells)) marks) e)

  -- at most two for each of Y, and one more
  pub done_few : (differ : ℕ) → r ≡ Ok differ → differ ≤ 2 * length (set_of cells) + 1
  done_few differ e =
      rw (done_differ differ e) (move_differs_few marks (done_legal differ e).0.sound.none (z_of cells) (set_of cells))

  -- and Y has at most max_members
  pub done_under : (differ : ℕ) → r ≡ Ok differ → differ ≤ 2 * max_members + 1
  done_under differ e =
      omega (arith, done_few differ e, set-few ((cells_checked max_members n marks cells).0 (done_legal differ e).1).0)

-- document 02, 2.4: "a move flips under eighty marks"
pub under_eighty : 2 * max_members + 1 < 80
under_eighty = omega arith

-- ---- move_at

pub part_whole : (log : List ℕ) (k : ℕ) → move_cells * k + move_cells ≤ length log
    → move_at move_cells log k ≡ take move_cells (drop (move_cells * k) log)
part_whole = move_whole move_cells

pub part_short : (log : List ℕ) (k : ℕ) → length log < move_cells * k + move_cells → move_at move_cells log k ≡ []
part_short = move_short move_cells
