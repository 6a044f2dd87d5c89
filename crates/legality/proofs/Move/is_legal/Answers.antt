-- The conditions one by one; that z separates members is what lets it have a wire, and be a parity.
use borrow.Author.Rules.{rules}
use Rattle.gf2.proofs.Answers.{decides_as}
use Rattle.legality.proofs.Conditions.{may_balance}
use Rattle.legality.specs.Tested.{MemberSet}
use Rattle.moves.specs.Move.{Separates}
use Rattle.legality.proofs.Move.is_legal.Goals as goal

pub is_balanced-requires : goal.is_balanced-requires
is_balanced-requires c =
    let marks = c.args.marks.now in
    let said = c.args.self.now in
    let both : MemberSet marks said.ys.now × Separates marks said.z said.ys.now = search rules in
    may_balance (search rules) both.0 both.1

pub returns-then-separates : goal.returns-then-separates
returns-then-separates c =
    let marks = c.args.marks.now in
    let said = c.args.self.now in
    let both : MemberSet marks said.ys.now × Separates marks said.z said.ys.now = search rules in
    decides_as
    (λ balanced.
    record {
      few = said.few;
      ordered = both.0.0;
      marked = both.0.1;
      separates = both.1;
      balanced = balanced;
    })
    (λ g. g.balanced) c.is_balanced.ensures
