-- The logarithm of a number is the place of its leading bit.
use native.Mathlib.Omega.{arith}
use Rattle.circuit.specs.Limits.{product_bits}
use Rattle.echelon.proofs.Slots.{leads_below}
use Rattle.echelon.proofs.leading.Goals as goal

pub returns : goal.returns
returns c =
    let log = c.ilog2.ensures in
    record {
      slot = leads_below product_bits c.args.x c.ilog2.result c.requires.1 log.power_le;
      lo = log.power_le;
      hi = omega (arith, log.next_power_gt);
    }
