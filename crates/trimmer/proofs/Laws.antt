-- The page to read: which circuits are trimmed, and what the promise of `trim` means.
use mathlib.Core.List.{List}
use mathlib.Core.Logic.{◌↔◌, ◌≢◌}
use mathlib.Core.Path.{ap, refl, sym, ◌∙◌, ◌≡◌}
use Prim.Native.Nat.{◌*◌, suc, zero, ℕ}
use native.Mathlib.Omega.{arith}
use lib.ListN.{length, length-take}
use Rattle.std.specs.Prelude.{Err, Ok, Result}
use Rattle.circuit.proofs.Bytes.{gates_in}
use Rattle.circuit.proofs.Judging.{done_list, list_number, or_well, refused_not_done, short_well, zero_done}
use Rattle.circuit.specs.Gate.{gates_of}
use Rattle.circuit.specs.Lent.{front_bytes, front_gates}
use Rattle.circuit.specs.Limits.{gate_bytes, log_cells, write_bytes}
use Rattle.circuit.specs.Replies.{Done, Reply, number_of}
use Rattle.circuit.specs.Told.{number, told}
use Rattle.circuit.specs.declared.faults.Refusal.{Refusal}
use Rattle.trimmed.specs.Trimmed.{Trimmed}
use Rattle.trimmed.specs.declared.Counts.{Counts}
use Rattle.written.proofs.Laws.{rack_runs_wrote}
use Rattle.written.specs.Spelling.{RackRuns}
use Rattle.trimmer.proofs.TrimWays.{may_trim}
use Rattle.trimmer.specs.Entry.{DoneWith, TrimLeft, TrimList, Trimmable, counts_of, trim_lent, verdict}

-- ---- which calls are done: C has none of faults 1 to 5, and the outputs are long enough

pub trim_accepts : (n : ℕ) (bytes out log : List ℕ) → (verdict n bytes (length out) (length log) ≡ Done) ↔ Trimmable n bytes out log
trim_accepts n bytes out log = (
  λ e. may_trim (sym e),
  λ t. done_list n bytes (trim_lent (length out) (length log)) t.accepted
      (or_well _ _ (short_well (length out) write_bytes t.out_room) (short_well (length log) log_cells t.log_room)),
)

-- ---- demand 3: the reply to any accepted C, and D

-- D takes just the bytes counted
pub counted : {n : ℕ} {bytes out log out' log' : List ℕ} {counts : Counts} → DoneWith n bytes out log out' log' counts
    → length (front_bytes counts.gates out') ≡ gate_bytes * counts.gates
counted {out' = out'} {counts = counts} d =
    omega (
      arith,
      d.trimmed.gates_written,
      gates_in (front_bytes counts.gates out'),
      length-take (gate_bytes * counts.gates) out',
    )

-- C was trimmed: the reply is done, and of D, which stands at the front of the gates lent, of the log and of the counts replied all that
-- demand 3 says holds
pub record DoneTrim (n : ℕ) (bytes out' log' : List ℕ) (r : Result Counts Refusal) : Type 0 where
  pub done : r ≡ Ok (counts_of r)
  pub trimmed : Trimmed n (gates_of bytes) (front_gates (counts_of r).gates out') log' (counts_of r)

module _ (n : ℕ) (bytes out log out' log' : List ℕ) where
  abbrev Left : Result Counts Refusal → Type 0
  Left r = TrimLeft (number_of (told r)) (counts_of r) n bytes out log out' log'

  by_reply : (r : Result Counts Refusal) → told r ≡ Done → Left r
      → (r ≡ Ok (counts_of r)) × DoneWith n bytes out log out' log' (counts_of r)
  by_reply (Ok counts) e d = (refl, d)
  by_reply (Err refusal) e d = absurd (refused_not_done (number refusal.fault) refusal.place e)

  same_if : (number : ℕ) (counts : Counts) → number ≢ 0 → TrimLeft number counts n bytes out log out' log' → (out' ≡ out) × (log' ≡ log)
  same_if zero counts h d = absurd (h refl)
  same_if (suc number) counts h d = d

  module _ (r : Result Counts Refusal) (h : TrimList n bytes out log out' log' r) where
    all_done : Trimmable n bytes out log → (r ≡ Ok (counts_of r)) × DoneWith n bytes out log out' log' (counts_of r)
    all_done t = by_reply r (h.reply ∙ (trim_accepts n bytes out log).1 t) h.left

    -- the reply is done exactly when C has none of faults 1 to 5 and the outputs are long enough; and then everything that demand 3 says
    -- holds, whatever the outputs held before
    pub done_exactly : ((told r ≡ Done) ↔ Trimmable n bytes out log) × (Trimmable n bytes out log → DoneTrim n bytes out' log' r)
    done_exactly = (
      (λ e. (trim_accepts n bytes out log).0 (sym h.reply ∙ e), λ t. h.reply ∙ (trim_accepts n bytes out log).1 t),
      λ t. let d = all_done t in record { done = d.0; trimmed = d.1.trimmed },
    )

    -- how D is written, and what stays untouched after it and after the log
    pub done_writes : Trimmable n bytes out log → DoneWith n bytes out log out' log' (counts_of r)
    done_writes t = (all_done t).1

    -- a rack without a native Z can run D
    pub rack_runs_trimmed : Trimmable n bytes out log → RackRuns (front_gates (counts_of r).gates out')
    rack_runs_trimmed t = rack_runs_wrote (done_writes t).written

    -- number 0 says done
    pub trim_number : number_of (told r) ≡ 0 → told r ≡ Done
    trim_number e =
        let v : Reply = verdict n bytes (length out) (length log) in
        h.reply
        ∙ zero_done v (λ number place. list_number n bytes (trim_lent (length out) (length log))) (sym (ap number_of h.reply) ∙ e)

    -- any other leaves both outputs as they were
    pub refusal_leaves : number_of (told r) ≢ 0 → (out' ≡ out) × (log' ≡ log)
    refusal_leaves some = same_if (number_of (told r)) (counts_of r) some h.left
