-- y, with z taken off where its bit t is set.
use mathlib.Core.Path.{refl}
use Rattle.circuit.specs.Limits.{max_wires}
use Rattle.gf2.specs.Bit.{bit}
use Rattle.moves.proofs.OneXor.{bar_lt}
use Rattle.moves.specs.Column.{bar}
use Rattle.moves.proofs.partner.bar.Goals as goal

pub returns : goal.returns
unfolding bar bit
returns c =
    (refl, bar_lt max_wires c.args.z c.args.t c.args.y c.requires.1 c.requires.2)
