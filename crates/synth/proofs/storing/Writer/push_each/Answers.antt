-- The kinds so far are stored, each on wire t.
use Rattle.circuit.specs.declared.gates.GateKind.TheVariants.{Cnot}
use Rattle.synth.proofs.PhaseTurns.{kind_room, kind_turn, kinds_first, kinds_last}
use Rattle.synth.proofs.storing.Writer.push_each.Goals as goal

pub loop-kind-init : goal.loop-kind-init
loop-kind-init c = kinds_first _ c.args.t

pub push-requires : goal.push-requires
push-requires c = kind_room c.args.t c.args.kinds.now Cnot c.loop-kind.invariant c.loop-kind-test.true c.requires

pub loop-kind-preserved : goal.loop-kind-preserved
loop-kind-preserved c =
    kind_turn c.args.t c.args.kinds.now Cnot c.loop-kind.invariant c.loop-kind-test.true (rw c.into.ensures at c.push.ensures)

pub returns : goal.returns
returns c = kinds_last c.args.t c.args.kinds.now Cnot c.loop-kind.invariant c.loop-kind-test.false
