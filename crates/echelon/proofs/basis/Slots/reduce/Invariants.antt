-- What is left of v is below 2 ^ product_bits, and the slots taken off it make up the difference; what is left falls at each turn.
use Prim.Native.Nat.{◌<◌, ◌^◌}
use Rattle.circuit.specs.Limits.{product_bits}
use Rattle.gf2.specs.Echelon.{Reached, held}
use Rattle.echelon.proofs.basis.Slots.reduce.Given as goal

abbrev pub invariant-loop-left : goal.invariant-loop-left
invariant-loop-left l = (l.left < 2 ^ product_bits) × Reached (held l.self.filled l.self.vec) l.fn.v.bits l.left l.used

abbrev pub decreases-loop-left : goal.decreases-loop-left
decreases-loop-left l = l.left
