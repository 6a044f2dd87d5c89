-- The page to read: which lists are read, and what the promise of `read` means.
use mathlib.Core.List.{List}
use mathlib.Core.Logic.{◌↔◌}
use mathlib.Core.Path.{ap, ap₂, subst, sym, ◌∙◌, ◌≡◌}
use Prim.Native.Nat.{◌<◌, ◌^◌, ℕ}
use lib.ListN.{length}
use Rattle.circuit.proofs.Judging.{done_list, lent_pass, lent_well, list_done, list_number, or_pass, or_well, zero_done}
use Rattle.circuit.proofs.ReadRuns.{read_runs}
use Rattle.circuit.proofs.Sound.{read_sound}
use Rattle.circuit.specs.Faults.{Accepted, lent_fault}
use Rattle.circuit.specs.Gate.{gates_of}
use Rattle.circuit.specs.Lent.{read_bytes, reading_lent}
use Rattle.circuit.specs.Limits.{max_wires, row_cells, table_bytes}
use Rattle.circuit.specs.Read.{Reading}
use Rattle.circuit.specs.Replies.{number_of}
use Rattle.circuit.specs.Run.{run}
use Rattle.circuit.specs.Says.{says}
use Rattle.circuit.specs.Sound.{SoundReading}
use Rattle.circuit.specs.Replies.{Done}
use Rattle.reader.specs.Entry.{ReadList, read_lent, read_reply}

-- ---- demand 1: the reply of `read`

-- an accepted list is read: nothing sound is refused
pub accepted_is_read : (n : ℕ) (bytes : List ℕ) (weights rows : ℕ) → Accepted n bytes → weights ≡ table_bytes → rows ≡ row_cells
    → read_reply n bytes weights rows ≡ Done
accepted_is_read n bytes weights rows a w r =
    done_list n bytes (read_lent weights rows) a (or_well _ _ (lent_well weights table_bytes w) (lent_well rows row_cells r))

-- what is read is accepted: nothing faulty is
pub read_is_accepted : (n : ℕ) (bytes : List ℕ) (weights rows : ℕ) → read_reply n bytes weights rows ≡ Done
    → Accepted n bytes × (weights ≡ table_bytes) × (rows ≡ row_cells)
read_is_accepted n bytes weights rows e =
    let a = list_done n bytes (read_lent weights rows) e in
    let b = or_pass (lent_fault weights table_bytes) (lent_fault rows row_cells) a.1 in
    (a.0, lent_pass weights table_bytes b.0, lent_pass rows row_cells b.1)

-- number 0 says done, and nothing else does
pub read_number : (n : ℕ) (bytes : List ℕ) (weights rows : ℕ)
    → (number_of (read_reply n bytes weights rows) ≡ 0) ↔ (read_reply n bytes weights rows ≡ Done)
read_number n bytes weights rows = (
  zero_done (read_reply n bytes weights rows) (λ number place. list_number n bytes (read_lent weights rows)),
  λ e. ap number_of e,
)

-- ---- what the promise of `read` means: after Done the outputs tell, for every basis state, where the list brings it and with which phase

module _ (n : ℕ) (bytes weights rows weights' rows' : List ℕ) (r : ReadList n bytes weights rows weights' rows' Done) where
  accepted : Accepted n bytes
  accepted = (read_is_accepted n bytes (length weights) (length rows) (sym r.reply)).0

  is : read_bytes n bytes ≡ reading_lent weights' rows'
  is = ap₂ reading_lent (sym r.weights_left) (sym r.rows_left)

  pub read_tells : (x : ℕ) → x < 2 ^ n → run (gates_of bytes) x ≡ says n (reading_lent weights' rows') x
  read_tells x l = read_runs max_wires n accepted.few (gates_of bytes) accepted.formed x l ∙ ap (λ (y : Reading). says n y x) is

  pub read_leaves_sound : SoundReading max_wires n (reading_lent weights' rows')
  read_leaves_sound =
      subst (λ (y : Reading). SoundReading max_wires n y) is (read_sound max_wires n accepted.few (gates_of bytes) accepted.formed)
