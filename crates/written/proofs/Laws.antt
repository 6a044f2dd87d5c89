-- The laws of written lists on one page, as documents 01 and 02 word them. The proofs are in the modules named.
use mathlib.Core.List.{List}
use mathlib.Core.Logic.{◌↔◌}
use mathlib.Core.Path.{◌∙◌, ◌≡◌, ap, sym}
use Prim.Native.Nat.{◌^◌, ℕ, ◌≤◌}
use Rattle.circuit.proofs.Sound.{start_sound}
use Rattle.circuit.specs.Faults.{AllWellFormed}
use Rattle.circuit.specs.Gate.{Gate, Z, kind_of}
use Rattle.circuit.specs.Lent.{reading_lent}
use Rattle.circuit.specs.Limits.{max_wires, row_cells}
use Rattle.circuit.specs.Read.{Reading, read, start}
use Rattle.circuit.specs.Sound.{SoundRows, SoundWeights}
use Rattle.circuit.specs.Gate.{Phase}
use Rattle.gf2.specs.Sum.{sum}
use Rattle.written.proofs.Checks.{fault_ready, ready_faultless}
use Rattle.written.proofs.KindCounts.{kinds_total}
use Rattle.written.proofs.Pulses.{runs_without_z}
use Rattle.written.proofs.RowRule.{rows_sound}
use Rattle.written.proofs.WriteBack.{list_written}
use Rattle.written.specs.Chosen.{chosen}
use Rattle.written.specs.Faults.{Writable, rows_fault, write_fault}
use Rattle.written.specs.Spelling.{RackRuns, gates_of_kind, kinds_at, occurs}
use Rattle.written.specs.Writing.{write_list}
use Rattle.written.specs.Wrote.{Wrote}

-- ---- demand 2: a list written from sound weights and rows reads back as exactly those. For every n and N

-- there is such a list, of at most n * 2^n + n * n gates, in which each weight is spelled as the papers say: the fields of Wrote
pub sound_is_written : (N n : ℕ) → n ≤ N → (w rows : List ℕ) → SoundWeights (2 ^ N) n w → SoundRows N n rows
    → (gs : List Gate) × Wrote N n (reading_lent w rows) gs
sound_is_written N n fit w rows sw sr = (write_list N n w rows, list_written N n fit w rows sw sr)

-- where the gates at each parity are its weight's spelling, the gates of each kind are counted: for any accepted list, read from the start
pub kinds_are_counted : (N n : ℕ) → n ≤ N → (kind v : ℕ) → kind_of kind ≡ Phase v → (gs : List Gate) → AllWellFormed n gs
    → gates_of_kind kind gs ≡ sum (2 ^ n) (λ p. occurs kind (kinds_at p gs (start N n)))
kinds_are_counted N n fit kind v e gs f = kinds_total kind v e N n fit gs (start N n) f (start_sound N n fit)

-- ---- document 02, 2.6: a rack without a native Z, that knows CNOT, T, S, S dagger and T dagger

-- it can run a list whose gates have no fault exactly where the list holds no Z
pub rack_runs_exactly : (n : ℕ) (gs : List Gate) → AllWellFormed n gs → RackRuns gs ↔ (gates_of_kind Z gs ≡ 0)
rack_runs_exactly n gs f = runs_without_z n gs f

-- so it can run every list that is written
pub rack_runs_wrote : {N n : ℕ} {r : Reading} {gs : List Gate} → Wrote N n r gs → RackRuns gs
rack_runs_wrote {n = n} {gs = gs} w = (rack_runs_exactly n gs w.formed).1 w.no_z

-- ---- document 02, 2.2: the list depends on n, the weights and the rows alone

-- so of the lists that this library writes, two that read alike are the same
pub reads_alike_same_list : {N n : ℕ} {r s : Reading} {gs hs : List Gate} → Wrote N n r gs → gs ≡ chosen N n r → Wrote N n s hs
    → hs ≡ chosen N n s → read N n hs ≡ read N n gs → hs ≡ gs
reads_alike_same_list {N} {n} w alone v alone' same = alone' ∙ ap (chosen N n) (sym v.reads ∙ same ∙ w.reads) ∙ sym alone

-- ---- demand 1: the faults of a call that writes

-- fault 7 exactly where the rows are not sound: another number of them, a bit or row beyond n, or not invertible
pub no_fault_sound_rows : (n : ℕ) (rows : List ℕ) → (rows_fault row_cells n rows ≡ 0) ↔ SoundRows max_wires n rows
no_fault_sound_rows n rows = rows_sound row_cells n rows

-- a call has no fault exactly where everything is sound and there is room
pub no_fault_writable : (n : ℕ) (w rows : List ℕ) (gates : ℕ) → (write_fault n w rows gates ≡ 0) ↔ Writable n w rows gates
no_fault_writable n w rows gates = (fault_ready n w rows gates, ready_faultless n w rows gates)
