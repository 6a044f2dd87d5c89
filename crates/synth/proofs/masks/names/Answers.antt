-- By the bit.
use borrow.Author.Rules.{rules}
use Rattle.gf2.specs.Bit.{bit}
use Rattle.synth.proofs.masks.names.Goals as goal

pub returns : goal.returns
unfolding bit
returns c = search rules
