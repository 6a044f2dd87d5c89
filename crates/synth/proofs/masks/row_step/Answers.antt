-- The mask of the row gets its wire, then loses the others.
use mathlib.Core.Path.{refl}
use Rattle.synth.proofs.RowTurns.{stepped}
use Rattle.synth.proofs.masks.row_step.Goals as goal

pub returns : goal.returns
returns c =
    stepped _ _ _ _ _ _ _ _ c.lack_of-lack.ensures c.recount_masks.ensures refl c.unit.ensures c.recount_masks-2.ensures
