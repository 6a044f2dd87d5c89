-- All slots emptied, each member without wire t has opened one.
use borrow.Author.Rules.{rules}
use Rattle.echelon.proofs.Masks.{masked_long}
use Rattle.columns.proofs.Apart.{half_all, half_known, half_none, half_opened}
use Rattle.columns.proofs.halves.Half.eliminate.Goals as goal

pub returns-then-all_open : goal.returns-then-all_open
returns-then-all_open c =
    let slots = c.clear.new.self in
    let ys = c.args.ys.now in
    half_known (half_all ys c.args.t (half_opened ys c.args.t (λ y p. search rules) (λ y p q. search rules)
    (rw c.clear.ensures (half_none ys c.args.t slots.vec (masked_long slots.masked)))
    (c.all_open.ensures.all c.if-all_open.true)))
