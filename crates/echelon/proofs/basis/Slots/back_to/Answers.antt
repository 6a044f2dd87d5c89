-- A mask of slots that were named all.
use Rattle.echelon.proofs.Masks.{masked_part}
use Rattle.echelon.proofs.basis.Slots.back_to.Goals as goal

pub invariant_of-self : goal.invariant_of-self
invariant_of-self c = record { masked = masked_part c.args.self.now.masked c.args.earlier c.requires }
