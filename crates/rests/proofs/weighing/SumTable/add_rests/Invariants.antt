-- The parities passed have their rests.
use Rattle.rests.specs.Rests.{RestsTo}
use Rattle.rests.proofs.weighing.SumTable.add_rests.Given as goal

abbrev pub invariant-loop-p : goal.invariant-loop-p
invariant-loop-p l = RestsTo l.self.wires.count l.self.s.now l.p l.initial.x-items l.x-items
