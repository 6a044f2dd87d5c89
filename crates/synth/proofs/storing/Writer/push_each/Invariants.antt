-- The kinds so far are stored, each on wire t.
use lib.ListN.{take}
use Rattle.synth.specs.Storing.{Stored, on_wire}
use Rattle.synth.proofs.storing.Writer.push_each.Given as goal

abbrev pub invariant-loop-kind : goal.invariant-loop-kind
invariant-loop-kind l = Stored l.initial.self l.self (on_wire l.t (take l.kind-index l.kinds))
