-- What is left of the lines, stored behind what has been, gives all of them.
use mathlib.Core.Path.{◌∙◌}
use Prim.Native.Nat.{◌*◌, ◌+◌}
use native.Mathlib.Omega.{arith}
use Rattle.text.proofs.Storing.{part_placed}
use Rattle.text.specs.Limits.{gate_line_bytes}
use Rattle.lines.proofs.Writing.{gate_put, gates_put, none_put}
use Rattle.lines.proofs.put_gates.Goals as goal

pub loop-i-init : goal.loop-i-init
loop-i-init c = none_put c.args.list.now c.args.out.now c.gates-gates.ensures c.requires

pub loop-i-preserved : goal.loop-i-preserved
loop-i-preserved c =
    gate_put c.loop-i.invariant c.loop-i-test.true
    (part_placed c.loop-i.out _ _ (gate_line_bytes * c.loop-i.i) (gate_line_bytes * c.loop-i.i + gate_line_bytes)
    (c.copy_from_slice.ensures.after ∙ c.gate_line.ensures)
    (omega arith))

pub returns : goal.returns
returns c = rw (← c.gates-gates.ensures) (gates_put c.loop-i.invariant (omega arith))
