-- The pairs, z for an odd set, and mark 0.
use mathlib.Core.Path.{refl}
use Rattle.carry.proofs.Carrying.{carried, may_clear, may_flip_z}
use Rattle.carry.proofs.flips.carry.Goals as goal

pub flip_if_odd-by_all-requires : goal.flip_if_odd-by_all-requires
flip_if_odd-by_all-requires c =
    may_flip_z c.requires c.flip_pairs-by_pairs.ensures

pub clear-requires : goal.clear-requires
clear-requires c =
    may_clear c.requires c.flip_pairs-by_pairs.ensures c.flip_if_odd-by_all.ensures

pub returns : goal.returns
returns c =
    carried c.requires c.flip_pairs-by_pairs.ensures c.flip_if_odd-by_all.ensures refl c.clear.ensures
