-- The gates from here on, read from the reading and the count so far, give the reading and the T gates of the list.
use mathlib.Core.List.{map}
use Prim.Native.Nat.{◌≤◌}
use lib.ListN.{drop}
use Rattle.circuit.specs.Gate.{gate_of, gates_of}
use Rattle.circuit.specs.Lent.{reading_lent}
use Rattle.circuit.specs.Limits.{max_wires}
use Rattle.reader.proofs.Turns.{ReadTo}
use Rattle.reader.proofs.reading.read_gates.Given as goal

abbrev pub invariant-loop-kind : goal.invariant-loop-kind
invariant-loop-kind l = record {
  few : l.tcount ≤ l.kind-index;
  to :
      let rest = map gate_of (drop l.kind-index l.kind-items) in
      ReadTo max_wires l.list.wires.count (gates_of l.list.gates.now) rest (reading_lent l.weights l.rows) l.tcount;
}
