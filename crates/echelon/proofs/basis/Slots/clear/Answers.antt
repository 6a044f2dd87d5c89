-- The mask 0 names nothing.
use Rattle.echelon.proofs.Masks.{masked_long, masked_none}
use Rattle.echelon.proofs.basis.Slots.clear.Goals as goal

pub invariant_of-self : goal.invariant_of-self
invariant_of-self c = record { masked = masked_none _ (masked_long c.args.self.now.masked) }
