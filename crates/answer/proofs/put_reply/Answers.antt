-- What the text reader replies, printed.
use native.Mathlib.Omega.{arith}
use Rattle.text.proofs.TextLaws.{circuit_left, circuit_said}
use Rattle.answer.proofs.AnswerWays.{circuit_printed, fault_printed}
use Rattle.answer.proofs.put_reply.Goals as goal

pub list-requires : goal.list-requires
list-requires c = circuit_left (circuit_said c.read_text.ensures c.in-Ok.is)

pub put_circuit-requires : goal.put_circuit-requires
put_circuit-requires c =
    let s = circuit_said c.read_text.ensures c.in-Ok.is in
    rw c.list.ensures (c.requires, s.sayable)

pub returns-in-Ok : goal.returns-in-Ok
returns-in-Ok c =
    let t = c.read_text in
    circuit_printed t.ensures c.in-Ok.is (rw c.list.ensures at c.put_circuit.ensures)

pub returns-in-Err : goal.returns-in-Err
returns-in-Err c =
    let t = c.read_text in
    fault_printed t.ensures (omega arith) c.in-Err.is c.refused_line.ensures c.put.ensures
