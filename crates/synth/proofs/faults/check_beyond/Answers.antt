-- No row before row i is beyond n: the fault of the rest is that of all.
use mathlib.Core.Path.{◌∙◌}
use native.Mathlib.Omega.{arith}
use Rattle.written.proofs.RowRule.{row_bad, row_end, row_good}
use Rattle.synth.proofs.faults.check_beyond.Goals as goal

pub returns-then-row-row_most : goal.returns-then-row-row_most
returns-then-row-row_most c =
    row_bad c.args.wires.count c.loop-i.i c.args.rows.now (omega arith) (omega (arith, c.row_most.ensures)) ∙ c.loop-i.invariant

pub loop-i-preserved : goal.loop-i-preserved
loop-i-preserved c =
    row_good c.args.wires.count c.loop-i.i c.args.rows.now (omega arith) (omega (arith, c.row_most.ensures)) ∙ c.loop-i.invariant

pub returns : goal.returns
returns c =
    row_end c.args.wires.count c.loop-i.i c.args.rows.now (omega arith) ∙ c.loop-i.invariant
