-- The entry `carry_out`: its reply, with how many marks differ, and what it leaves in the lent marks, for sound and faulty arguments alike.
use Rattle.std.specs.Prelude.{cond, Err, List, Ok, Result, ◌⊎◌, ◌≡◌, ◌+◌, ◌≤◌, ℕ, length}
use Rattle.circuit.specs.Faults.{bad_move, lent_fault, refuse}
use Rattle.circuit.specs.Limits.{max_members, parities, table_bytes}
use Rattle.circuit.specs.OddSet.{member_count}
use Rattle.circuit.specs.Replies.{after, number_of, place_of}
use Rattle.circuit.specs.Replies.{Reply}
use Rattle.circuit.specs.Replies as reply
use Rattle.circuit.specs.Sound.{SoundMarks}
use Rattle.circuit.specs.TableFaults.{call_fault, marks_fault}
use Rattle.circuit.specs.Told.{told}
use Rattle.circuit.specs.declared.faults.Refusal.{Refusal}
use Rattle.moves.specs.CarryOut.{carry_out, differing}
use Rattle.moves.specs.Decide.{is_move}
use Rattle.moves.specs.Log.{LegalCells, set_of, z_of}
use Rattle.phase.specs.Signature.{SameSignature}

-- how many marks it says differ, 0 where it refused
abbrev pub differ_of : Result ℕ Refusal → ℕ
differ_of (Ok differ) = differ
differ_of (Err refusal) = 0

-- 1, 8 and 6: the marks are input and output, so a wrong length gives 8, a wrong mark 6
abbrev pub carry_fault : ℕ → List ℕ → ℕ
carry_fault n marks = call_fault n (lent_fault (length marks) table_bytes) (marks_fault n marks)

-- the reply, from what goes in alone: 1, 8, 6, 10
abbrev pub carry_reply : ℕ → List ℕ → List ℕ → Reply
carry_reply n marks cells = refuse (carry_fault n marks) 0 (cond (is_move max_members n marks cells) reply.Done (reply.Refused bad_move 0))

-- `carry_out`, called with these marks and cells, replies r and leaves marks'
pub record CarriesOut (n : ℕ) (marks cells marks' : List ℕ) (r : Result ℕ Refusal) : Type 0 where
  pub reply : told r ≡ carry_reply n marks cells
  -- without 1, 8 and 6: done exactly if the cells are a legal move for these marks
  pub judged : carry_fault n marks ≡ 0
      → ((number_of (told r) ≡ 0) × LegalCells max_members n marks cells)
      ⊎ ((number_of (told r) ≡ bad_move) × (place_of (told r) ≡ 0) × (LegalCells max_members n marks cells → ⊥))
  -- the move that the cells say, carried out; or as they were
  pub marks_left : marks' ≡ after (number_of (told r)) (carry_out marks (z_of cells) (set_of cells)) marks
  -- as many marks as it says differ; after a refusal none
  pub differ : differ_of r ≡ differing marks marks'
  -- the signature stays; the marks are sound again; the odd set shrinks by one at least
  pub signature : number_of (told r) ≡ 0 → SameSignature n marks' marks
  pub sound : number_of (told r) ≡ 0 → SoundMarks parities n marks'
  pub smaller : number_of (told r) ≡ 0 → member_count marks' + 1 ≤ member_count marks
