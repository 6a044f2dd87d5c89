-- The sum with three wires, modulo 2.
use Rattle.weights.proofs.OneSum.{c_read}
use Rattle.weights.proofs.sums.Weights.c_of.Goals as goal

pub returns : goal.returns
returns c =
    let a = c.args in
    c_read a.self.now.w.now a.i a.j a.k c.sum_with.result c.rem_euclid.result c.sum_with.ensures c.rem_euclid.ensures.value
