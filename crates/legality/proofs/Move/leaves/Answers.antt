-- A member, and none of Y.
use Rattle.gf2.proofs.Answers.{decides_as, decides_not}
use Rattle.legality.proofs.Deciding.{in_by_any}
use Rattle.legality.proofs.Move.leaves.Goals as goal

pub returns-then-has : goal.returns-then-has
returns-then-has c =
    let not_in = decides_not (rw c.contains.ensures.value (in_by_any c.args.b c.args.self.now.ys.now)) in
    decides_as (λ out. (c.has.ensures.0 c.if-has.true, out)) (λ o. o.1) not_in
