-- No member passed so far has a partner.
use mathlib.Core.Path.{refl}
use native.Mathlib.Omega.{arith}
use Rattle.gf2.proofs.Answers.{answer_no, answer_yes}
use Rattle.columns.proofs.Apart.{has_partner, no_partner}
use Rattle.columns.proofs.InTurn.{members_had}
use Rattle.columns.proofs.Search.has_pair.Goals as goal

pub returns-then-mark_at-eq1 : goal.returns-then-mark_at-eq1
returns-then-mark_at-eq1 c =
    answer_yes (has_partner (members_had c.args.self.now.listed) (omega arith) refl c.mark_at.ensures c.if-mark_at-eq1.true)

pub returns : goal.returns
returns c =
    answer_no (no_partner (members_had c.args.self.now.listed) (λ j l. c.loop-y.invariant j (omega arith)))
