-- What the trim replies, printed.
use native.Mathlib.Omega.{arith}
use Rattle.answer.proofs.AnswerWays.{counted, gate_printed, gates_left, gates_within, lends, trim_printed}
use Rattle.answer.proofs.put_circuit.Goals as goal

pub list-requires : goal.list-requires
list-requires c =
    gates_left (lends c.requires.1 (omega arith) (omega arith)) c.trim.ensures c.in-Ok.is

pub put_trimmed-requires : goal.put_trimmed-requires
put_trimmed-requires c =
    let h = counted (lends c.requires.1 (omega arith) (omega arith)) c.trim.ensures c.in-Ok.is in
    let w =
    gates_within (lends c.requires.1 (omega arith) (omega arith)) c.trim.ensures c.in-Ok.is in
    rw c.list.ensures (omega (arith, h, w, c.requires.0))

pub returns-in-Ok : goal.returns-in-Ok
returns-in-Ok c =
    trim_printed (lends c.requires.1 (omega arith) (omega arith)) c.trim.ensures c.in-Ok.is
    (rw c.list.ensures at c.put_trimmed.ensures)

pub returns-in-Err : goal.returns-in-Err
returns-in-Err c =
    gate_printed (lends c.requires.1 (omega arith) (omega arith)) c.trim.ensures c.in-Err.is
    c.refused_line.ensures c.put.ensures
