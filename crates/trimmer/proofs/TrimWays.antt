-- One law for each way out of the entry `trim`, by what the judge of the call found.
use mathlib.Core.List.{List}
use mathlib.Core.Path.{sym, ◌≡◌}
use Prim.Native.Nat.{ℕ}
use lib.ListN.{length}
use Rattle.circuit.proofs.Judging.{list_done, or_pass, short_pass}
use Rattle.circuit.specs.Faults.{short_fault}
use Rattle.circuit.specs.Limits.{log_cells, write_bytes}
use Rattle.circuit.specs.Replies.{Done}
use Rattle.trimmer.specs.Entry.{Trimmable, trim_lent, verdict}

module _ {n : ℕ} {g out log : List ℕ} where
  pub may_trim : Done ≡ verdict n g (length out) (length log) → Trimmable n g out log
  may_trim judged =
      let a = list_done n g (trim_lent (length out) (length log)) (sym judged) in
      let b = or_pass (short_fault (length out) write_bytes) (short_fault (length log) log_cells) a.1 in
      record { accepted = a.0; out_room = short_pass (length out) write_bytes b.0; log_room = short_pass (length log) log_cells b.1 }
