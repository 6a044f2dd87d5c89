-- Some a in Y has its b, or none has.
use borrow.Author.Rules.{rules}
use lib.Bits.{bit_xor}
use Rattle.legality.proofs.Deciding.{separates_by_any}
use Rattle.legality.specs.Tested.{Outside}
use Rattle.std.proofs.lemmas.Iterator.{YieldsList-from_slice, cases_from_any}
use Rattle.legality.proofs.Move.separates.Goals as goal

pub returns : goal.returns
returns c =
    let marks = c.args.odd.now.marks.now in
    let z = c.args.self.now.z in
    let ys = c.args.self.now.ys.now in
    separates_by_any marks z ys
    (cases_from_any _ _ _ (λ y. Outside marks ys (bit_xor y z)) (λ y. Outside marks ys (bit_xor y z) → ⊥) c.any.ensures.ran
    (YieldsList-from_slice ys cc) (λ x q k. search rules) (λ x q k. search rules))
