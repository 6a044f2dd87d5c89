-- By the bit of wire r.
use borrow.Author.Rules.{rules}
use Rattle.synth.proofs.RowTurns.{lack_none, lack_wire}
use Rattle.synth.proofs.masks.lack_of.Goals as goal

pub returns-then-names : goal.returns-then-names
returns-then-names c = lack_none c.args.r c.args.m (search rules)

pub returns-else-names : goal.returns-else-names
returns-else-names c = lack_wire c.args.r c.args.m _ c.unit.ensures (search rules)
