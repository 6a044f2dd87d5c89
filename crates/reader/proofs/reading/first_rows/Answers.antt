-- All rows are filled.
use native.Mathlib.Omega.{arith}
use Rattle.circuit.specs.Limits.{max_wires}
use Rattle.reader.proofs.Turns.{first_all}
use Rattle.reader.proofs.reading.first_rows.Goals as goal

pub returns : goal.returns
returns c = first_all max_wires c.args.n c.loop-i.i c.loop-i.row-items (omega arith) (omega arith) c.loop-i.invariant
