-- Faults 3, 4 and 5 of a gate, by its kind.
use mathlib.Core.Path.{◌≡◌}
use borrow.Author.Rules.{rules}
use Rattle.circuit.proofs.Judging.{by_kind}
use Rattle.circuit.specs.Faults.{gate_kind}
use Rattle.circuit.specs.Gate.{Cnot, Phase, Unknown, kind_of}
use Rattle.circuit.specs.Told.{fault_told}
use Rattle.judges.proofs.faults.check_gate.Goals as goal

pub returns-in_err-try_from : goal.returns-in_err-try_from
returns-in_err-try_from c =
    let a = c.args in
    let k : Unknown ≡ kind_of a.kind = search rules in
    let f : fault_told c.from_residual.result ≡ gate_kind = search rules in
    by_kind a.n a.kind a.a a.b Unknown (fault_told c.from_residual.result) k f

pub returns-in-None : goal.returns-in-None
returns-in-None c =
    let a = c.args in
    let k : Cnot ≡ kind_of a.kind = search rules in
    by_kind a.n a.kind a.a a.b Cnot (fault_told c.check_cnot.result) k c.check_cnot.ensures

pub returns-in-Some : goal.returns-in-Some
returns-in-Some c =
    let a = c.args in
    let k : Phase c.in-Some.field-0 ≡ kind_of a.kind = search rules in
    by_kind a.n a.kind a.a a.b (Phase c.in-Some.field-0) (fault_told c.check_one_wire.result) k c.check_one_wire.ensures
