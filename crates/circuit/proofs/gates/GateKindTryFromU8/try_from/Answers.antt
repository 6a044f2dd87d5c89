-- A byte that is none of the kinds.
use mathlib.Core.Path.{sym}
use native.Mathlib.Omega.{arith}
use Rattle.circuit.proofs.GateKinds.{no_kind}
use Rattle.circuit.proofs.gates.GateKindTryFromU8.try_from.Goals as goal

pub returns-in_default : goal.returns-in_default
returns-in_default c =
    sym (no_kind c.args.byte (omega arith) (omega arith) (omega arith) (omega arith) (omega arith) (omega arith))

pub returns-in_default-2 : goal.returns-in_default-2
returns-in_default-2 c =
    sym (no_kind c.args.byte (omega arith) (omega arith) (omega arith) (omega arith) (omega arith) (omega arith))
