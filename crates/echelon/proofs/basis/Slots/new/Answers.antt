-- The mask 0 names nothing.
use mathlib.Core.Path.{refl}
use Rattle.echelon.proofs.Masks.{masked_none}
use Rattle.echelon.proofs.basis.Slots.new.Goals as goal

pub invariant_of-result : goal.invariant_of-result
invariant_of-result c = record { masked = masked_none _ refl }
