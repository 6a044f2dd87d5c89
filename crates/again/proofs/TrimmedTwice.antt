-- The trim of what the trim wrote: accepted, and nothing moves. That even the bytes are the same goes by `alone`: what is written depends
-- on n, the weights and the rows alone, and these are equal.
use mathlib.Core.List.{List}
use mathlib.Core.Path.{ap, subst, sym, ◌∙◌, ◌≡◌}
use Prim.Native.Nat.{◌*◌, ◌%◌, ℕ}
use native.Mathlib.Omega.{arith}
use lib.ListN.{length}
use Rattle.circuit.proofs.Bytes.{bytes_of_gates}
use Rattle.circuit.proofs.Placing.{front_placed}
use Rattle.circuit.specs.Faults.{Accepted}
use Rattle.circuit.specs.Gate.{bytes_of, gates_of}
use Rattle.circuit.specs.Lent.{KeptFrom, front_bytes, front_gates, placed}
use Rattle.circuit.specs.Limits.{gate_bytes, move_cells}
use Rattle.trimmed.proofs.Laws.{trimming_again}
use Rattle.trimmed.specs.Again.{TrimmedAgain}
use Rattle.trimmed.specs.declared.Counts.{Counts}
use Rattle.written.proofs.Checks.{longest}
use Rattle.written.proofs.Laws.{reads_alike_same_list}
use Rattle.trimmer.proofs.Laws.{counted}
use Rattle.trimmer.specs.Entry.{DoneWith}
use Rattle.again.specs.Calls.{settled}

-- D is whole gates
module _ {n : ℕ} {bytes out log out' log' : List ℕ} {counts : Counts} (d : DoneWith n bytes out log out' log' counts) where
  whole : length (front_bytes counts.gates out') % gate_bytes ≡ 0
  whole = rw (counted d) (omega arith)

  back : bytes_of (front_gates counts.gates out') ≡ front_bytes counts.gates out'
  back = bytes_of_gates (front_bytes counts.gates out') whole

  -- and is a list that may be trimmed: the longest written list is no longer than the longest list that is read
  pub accepted_again : Accepted n bytes → Accepted n (front_bytes counts.gates out')
  accepted_again a =
      record {
        some = a.some;
        few = a.few;
        whole = whole;
        short = omega (arith, counted d, d.trimmed.gates_written, d.written.short, longest n a.few);
        formed = d.trimmed.formed;
      }

module _ {n : ℕ} {bytes out log out' log' : List ℕ} {first : Counts} (d : DoneWith n bytes out log out' log' first)
    {out₂ log₂ out₂' log₂' : List ℕ} {again : Counts} (e : DoneWith n (front_bytes first.gates out') out₂ log₂ out₂' log₂' again) where
  pub same : TrimmedAgain n (front_gates first.gates out') (front_gates again.gates out₂') first again
  same =
      trimming_again n (gates_of bytes) (front_gates first.gates out') (front_gates again.gates out₂') log' log₂' first again
      d.trimmed e.trimmed

  same_gates : front_gates again.gates out₂' ≡ front_gates first.gates out'
  same_gates = reads_alike_same_list d.written d.alone e.written e.alone same.reads

  same_number : again.gates ≡ first.gates
  same_number = e.trimmed.gates_written ∙ ap length same_gates ∙ sym d.trimmed.gates_written

  pub counts_settled : again ≡ settled first
  counts_settled =
      λ i. record {
        tin = same.t_in i;
        odd = same.odd_size i;
        tout = same.t_out i;
        moves = same.no_move i;
        gates = same_number i;
      }

  pub written_again : out₂' ≡ placed out₂ 0 (front_bytes first.gates out')
  written_again =
      front_placed e.gates_kept (front_bytes first.gates out') (ap (λ (k : ℕ). gate_bytes * k) same_number ∙ sym (counted d))
      (sym (back e) ∙ ap bytes_of same_gates ∙ back d)

  pub no_log : log₂' ≡ log₂
  no_log = (subst (λ (k : ℕ). KeptFrom (move_cells * k) log₂ log₂') same.no_move e.log_kept).kept
