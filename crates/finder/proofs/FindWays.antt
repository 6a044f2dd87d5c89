-- What follows from a call of the entry `find` without a fault: the marks are sound, and where the search finds nothing, so does the call.
use mathlib.Core.List.{List}
use mathlib.Core.Path.{◌∙◌, ◌≡◌, ap, refl, sym}
use Prim.Native.Nat.{ℕ}
use lib.ListN.{length}
use Rattle.std.specs.Prelude.{None, Ok}
use Rattle.circuit.proofs.TableRule.{marks_passes}
use Rattle.circuit.specs.Faults.{call_reply, lent_fault}
use Rattle.circuit.specs.Limits.{move_cells}
use Rattle.circuit.specs.TableFaults.{Marked, call_fault, marks_fault}
use Rattle.moves.specs.declared.Sought.TheVariants.{Nothing}
use Rattle.finder.specs.Entry.{FindMove}
use Rattle.finder.specs.Search.{Searched}

module _ (n : ℕ) (marks cells : List ℕ) {lent : ℕ} (lent_is : lent ≡ lent_fault (length cells) move_cells)
    (clear : 0 ≡ call_fault n lent (marks_fault n marks)) where
  pub may_search : Marked n marks
  may_search = ((marks_passes n lent marks).0 (sym clear)).0

  pub find_nothing : Searched n marks None → FindMove n marks cells cells (Ok Nothing)
  find_nothing s =
      record {
        reply = ap call_reply (clear ∙ ap (λ (x : ℕ). call_fault n x (marks_fault n marks)) lent_is);
        cells_left = (refl, s);
      }
