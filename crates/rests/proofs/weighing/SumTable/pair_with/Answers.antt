-- The same wire, or another.
use native.Mathlib.Omega.{arith}
use Rattle.rests.proofs.RestSteps.{other_wire, same_wire}
use Rattle.rests.proofs.weighing.SumTable.pair_with.Goals as goal

pub returns-then-p-q : goal.returns-then-p-q
returns-then-p-q c = same_wire c.args.self.now.s.now c.args.p c.args.q (omega arith)

pub returns : goal.returns
returns c = (other_wire c.args.self.now.s.now c.args.p c.args.q _ (omega arith) c.pair_rest.ensures.0, c.pair_rest.ensures.1)
