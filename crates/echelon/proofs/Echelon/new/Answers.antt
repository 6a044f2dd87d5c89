-- 0 is a parity.
use mathlib.Core.Path.{refl}
use native.Mathlib.Omega.{arith}
use Rattle.circuit.specs.Limits.{product_bits}
use Rattle.gf2.proofs.Table.{get_or-zeros}
use Rattle.echelon.proofs.Echelon.new.Goals as goal

pub invariant_of-result : goal.invariant_of-result
invariant_of-result c =
    record {
      by_long = refl;
      members = record { long = refl; below = λ i l. omega (arith, get_or-zeros product_bits i) };
    }
