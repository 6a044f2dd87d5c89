-- The first wire that the search has found is the pivot.
use mathlib.Core.Logic.{◌≢◌}
use mathlib.Core.Path.{◌≡◌}
use borrow.Author.Rules.{rules}
use Rattle.std.proofs.lemmas.Iterator.{first_from_Range}
use Rattle.gf2.specs.Bit.{bit}
use Rattle.synth.proofs.RowTurns.{pivot_found}
use Rattle.synth.proofs.masks.pivot_of.Goals as goal

pub returns : goal.returns
returns c =
    pivot_found c.args.wires.count c.args.r c.args.m c.requires _
    (first_from_Range _ _ _ _ (λ i. bit c.args.m i ≡ 1) (λ i. bit c.args.m i ≢ 1) c.find.ensures.ran (λ x q k. search rules)
    (λ x q k. (search rules, search rules)))
