-- No gate before has a fault: the first fault of the rest is that of the list.
use mathlib.Core.List.{map}
use mathlib.Core.Path.{◌≡◌}
use lib.ListN.{drop}
use Rattle.circuit.specs.Faults.{first_fault}
use Rattle.circuit.specs.Gate.{gate_of, gates_of}
use Rattle.judges.proofs.faults.check_gates.Given as goal

abbrev pub invariant-loop-place : goal.invariant-loop-place
invariant-loop-place l =
    (map gate_of l.kind-items ≡ gates_of l.list)
    × (first_fault l.n l.place-counter (map gate_of (drop l.place-counter l.kind-items)) ≡ first_fault l.n 0 (gates_of l.list))
