-- The cells of a legal move have the form that `set_of` asks for, and `carry` does the move.
use mathlib.Core.Path.{refl}
use Rattle.carry.proofs.Ways.{may_carry}
use Rattle.moves.proofs.Logs.{cells_checked}
use Rattle.moving.proofs.make_move.Goals as goal

pub set_of-requires : goal.set_of-requires
set_of-requires c = ((cells_checked _ _ _ _).0 c.requires.1).0

pub carry-requires : goal.carry-requires
carry-requires c = may_carry c.requires.1 c.requires.0 refl c.set_of.ensures
