-- The CNOTs from the wires passed are stored.
use Rattle.synth.proofs.PhaseTurns.{CnotsTo}
use Rattle.synth.proofs.storing.Writer.push_cnots.Given as goal

abbrev pub invariant-loop-i : goal.invariant-loop-i
invariant-loop-i l = CnotsTo l.initial.self.wires.count l.q l.t l.initial.self l.self l.i-iterator
