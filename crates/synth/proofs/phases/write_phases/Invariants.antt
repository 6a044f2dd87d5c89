-- The parities below p are written.
use Rattle.circuit.specs.Limits.{max_wires}
use Rattle.synth.specs.Storing.{Stored}
use Rattle.written.specs.Writing.{write_phases}
use Rattle.synth.proofs.phases.write_phases.Given as goal

abbrev pub invariant-loop-p : goal.invariant-loop-p
invariant-loop-p l = Stored l.initial.to l.to (write_phases max_wires l.initial.to.wires.count l.weights l.p)
