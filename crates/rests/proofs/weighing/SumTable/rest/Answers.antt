-- By the number of wires.
use mathlib.Core.Path.{sym, ◌∙◌}
use native.Mathlib.Omega.{arith}
use Rattle.rests.proofs.RestSteps.{rest_more_wires, rest_one_wire, rest_two_wires}
use Rattle.rests.proofs.weighing.SumTable.rest.Goals as goal

pub returns-in-1 : goal.returns-in-1
returns-in-1 c =
    let t = c.args.self.now in
    (rest_one_wire t.wires.count t.s.now c.args.p _ (sym c.wires_of.ensures ∙ c.in-1.is) c.one_rest.ensures.0, c.one_rest.ensures.1)

pub returns-in-2 : goal.returns-in-2
returns-in-2 c =
    let t = c.args.self.now in
    (rest_two_wires t.wires.count t.s.now c.args.p _ (sym c.wires_of.ensures ∙ c.in-2.is) c.pair_rest.ensures.0, c.pair_rest.ensures.1)

pub returns-in_default : goal.returns-in_default
returns-in_default c =
    let t = c.args.self.now in
    (rest_more_wires t.wires.count t.s.now c.args.p (omega arith) (omega arith), omega arith)
