-- The two constants are one bit for each copy.
use mathlib.Core.Path.{refl}
use Rattle.gf2.specs.Copies.{copies, pairs}
use Rattle.gf2.specs.Sum.{sum}
use Rattle.legality.proofs.pairs_of.Goals as goal

pub returns : goal.returns
unfolding pairs copies sum
returns c = refl
