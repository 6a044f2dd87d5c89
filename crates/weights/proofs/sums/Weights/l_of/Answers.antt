-- The sum with one wire, modulo 8.
use Rattle.weights.proofs.OneSum.{l_read}
use Rattle.weights.proofs.sums.Weights.l_of.Goals as goal

pub returns : goal.returns
returns c = l_read c.args.self.now.w.now c.args.i c.sum_with.result c.rem_euclid.result c.sum_with.ensures c.rem_euclid.ensures.value
