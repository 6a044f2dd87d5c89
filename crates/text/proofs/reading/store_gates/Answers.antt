-- What is left of the lines, stored behind what has been, gives all of it.
use mathlib.Core.Path.{◌∙◌}
use Prim.Native.Nat.{◌*◌, ◌+◌, ◌<◌, ◌≤◌}
use native.Mathlib.Omega.{arith}
use lib.ListN.{length}
use borrow.Author.Rules.{rules}
use Rattle.circuit.specs.Limits.{gate_bytes}
use Rattle.text.specs.Limits.{gate_line_bytes}
use Rattle.text.proofs.Storing.{all_stored, gate_fits, gate_of_line, gate_stored, none_stored, part_placed}
use Rattle.text.proofs.reading.store_gates.Goals as goal

pub loop-i-init : goal.loop-i-init
loop-i-init c = none_stored c.args.lines.now c.args.gates.now c.requires.1

pub slice_bounds-copy_from_slice-end : goal.slice_bounds-copy_from_slice-end
slice_bounds-copy_from_slice-end c =
    let more : gate_line_bytes * c.loop-i.i < length c.args.lines.now = omega (arith, c.as_chunks.ensures.front_len) in
    let fits : gate_bytes * c.loop-i.i + gate_bytes ≤ length c.loop-i.gates = gate_fits c.loop-i.invariant more c.requires.0 in
    search rules

pub loop-i-preserved : goal.loop-i-preserved
loop-i-preserved c =
    let few = c.as_chunks.ensures.front_len in
    gate_stored c.loop-i.invariant (omega arith) c.requires.0
    (part_placed c.loop-i.gates _ _ (gate_bytes * c.loop-i.i) (gate_bytes * c.loop-i.i + gate_bytes)
    (c.copy_from_slice.ensures.after ∙ c.gate_of.ensures ∙ gate_of_line c.args.lines.now c.loop-i.i c.as_chunks.ensures.front (omega arith))
    (omega arith))

pub returns : goal.returns
returns c =
    all_stored c.loop-i.invariant c.as_chunks.ensures.front_len (omega arith) (omega arith) c.requires.0
