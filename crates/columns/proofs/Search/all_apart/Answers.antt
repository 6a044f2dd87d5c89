-- The half is known, and each single with wire t has opened a slot beside it.
use borrow.Author.Rules.{rules}
use Rattle.columns.proofs.Apart.{apart_none, apart_opened, apart_start}
use Rattle.columns.proofs.InTurn.{members_had}
use Rattle.columns.proofs.Search.all_apart.Goals as goal

pub returns-clause-apart : goal.returns-clause-apart
returns-clause-apart c e =
    let s = c.args.self.now in
    let m = members_had s.listed in
    apart_none m c.args.one.in_range.0 c.requires.names
    (apart_opened s.marks.now s.members.now c.args.one.z c.args.one.t m (λ y r p. search rules)
    (apart_start s.marks.now s.members.now c.args.one.z c.args.one.t
    (rw (c.back_to.ensures.0, c.back_to.ensures.1) (c.requires.half_in.known _ c.in-Some.is))) (c.all_open.ensures.all e))
