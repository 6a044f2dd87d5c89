-- Gates stored in lent bytes, one after the other: what the functions behind the entry require and promise.
use Rattle.std.specs.Prelude.{Err, List, None, Ok, Option, Result, Some, map, ◌≡◌, ◌*◌, ◌+◌, ◌<◌, ◌^◌, ◌≤◌, ℕ, get_or, length}
use Rattle.std.proofs.lemmas.List.Edits.{sets}
use Rattle.circuit.specs.Faults.{row_rule}
use Rattle.circuit.specs.Gate.{Gate, bytes_of, gate}
use Rattle.circuit.specs.Kinds.{kind_byte}
use Rattle.circuit.specs.Limits.{gate_bytes, max_wires, parities}
use Rattle.circuit.specs.Sound.{SoundRows, SoundWeights}
use Rattle.circuit.specs.Told.{number}
use Rattle.circuit.specs.declared.faults.Fault.{Fault}
use Rattle.circuit.specs.declared.gates.GateKind.{GateKind}
use Rattle.written.specs.Writing.{lack, next_masks, pivot, surplus, write_parity, write_phases, write_rows}
use Rattle.synth.specs.declared.masks.Step.{Step}
use Rattle.synth.specs.declared.solving.Solving.{Solving}
use Rattle.synth.specs.declared.storing.Writer.{Writer}

-- the lent bytes have room for these gates after those that stand there
abbrev pub Room : Writer → List Gate → Type 0
Room w new = gate_bytes * (w.count + length new) ≤ length w.gates.now

-- from w to w': on the same wires, these gates are stored after the others, in the same lent bytes, and no other byte is changed
pub record Stored (w w' : Writer) (new : List Gate) : Type 0 where
  pub wires : w'.wires ≡ w.wires
  pub same : w'.gates.ghost_name ≡ w.gates.ghost_name
  pub counted : w'.count ≡ w.count + length new
  pub bytes : w'.gates.now ≡ sets w.gates.now (gate_bytes * w.count) (bytes_of new)

-- ---- the weights

-- gates of these kinds, each on wire t alone
abbrev pub on_wire : ℕ → List GateKind → List Gate
on_wire t kinds = map (λ kind. gate (kind_byte kind) t 0) kinds

-- there is room for weight v at parity p
pub record ParityReady (w : Writer) (p v : ℕ) : Type 0 where
  pub inside : p < parities
  pub small : v < 8
  pub none : p ≡ 0 → v ≡ 0
  pub room : Room w (write_parity max_wires w.wires.count p v)

-- and for all weights
pub record PhasesReady (w : Writer) (weights : List ℕ) : Type 0 where
  pub sound : SoundWeights parities w.wires.count weights
  pub room : Room w (write_phases max_wires w.wires.count weights (2 ^ w.wires.count))

-- ---- the rows

-- and for the rows
pub record RowsReady (w : Writer) (rows : List ℕ) : Type 0 where
  pub sound : SoundRows max_wires w.wires.count rows
  pub room : Room w (write_rows w.wires.count rows)

-- the row of wire r with pivot b: what its CNOTs go by, from the masks before them, and the masks after them
pub record Stepped (r b : ℕ) (masks masks' : List ℕ) (s : Step) : Type 0 where
  pub row_is : s.r ≡ r
  pub pivot_is : s.b ≡ b
  pub lacks : s.lack ≡ lack r (get_or masks r 0)
  pub loses : s.surplus ≡ surplus r b masks
  pub leaves : masks' ≡ next_masks r b masks

-- the row whose turn it is has its pivot, and is solved
pub record Solved (s : Solving) (step : Step) (s' : Solving) : Type 0 where
  pub inside : s.r < s.wires.count
  pub within : step.b < s.wires.count
  pub pivot_is : step.b ≡ pivot s.wires.count s.r (get_or s.masks s.r 0)
  pub stepped : Stepped s.r step.b s.masks s'.masks step
  pub wires_are : s'.wires ≡ s.wires
  pub next : s'.r ≡ s.r + 1

-- it has none
pub record Stuck (s : Solving) (fault : Fault) : Type 0 where
  pub inside : s.r < s.wires.count
  pub none : s.wires.count ≤ pivot s.wires.count s.r (get_or s.masks s.r 0)
  pub fault_is : number fault ≡ row_rule

-- the step of the next row, or a fault; or all are solved
abbrev pub NextRow : Solving → Option (Result Step Fault) → Solving → Type 0
NextRow s (Some (Ok step)) s' = Solved s step s'
NextRow s (Some (Err fault)) s' = Stuck s fault
NextRow s None s' = (s.wires.count ≤ s.r) × (s' ≡ s)
