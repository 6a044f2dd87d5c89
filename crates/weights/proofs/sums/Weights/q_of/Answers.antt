-- The sum with two wires, negated, modulo 4.
use Rattle.weights.proofs.OneSum.{q_read}
use Rattle.weights.proofs.sums.Weights.q_of.Goals as goal

pub returns : goal.returns
returns c =
    q_read c.args.self.now.w.now c.args.i c.args.j c.sum_with.result c.rem_euclid.result c.sum_with.ensures c.rem_euclid.ensures.value
