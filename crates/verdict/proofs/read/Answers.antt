-- What the text reader replied, and of which text.
use native.Mathlib.Omega.{arith}
use borrow.Author.Rules.{rules}
use Rattle.verdict.proofs.VerdictWays.{read_as}
use Rattle.verdict.proofs.read.Goals as goal

pub returns : goal.returns
returns c = read_as c.args.which c.read_text.result c.map_err.result c.read_text.ensures (omega arith) (search rules)
