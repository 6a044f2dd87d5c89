-- The cells, cut into the two of the head, Y and what is left.
use borrow.Author.Rules.{rules}
use Rattle.circuit.specs.Limits.{max_members}
use Rattle.legality.proofs.Conditions.{Cut, cut_few, cut_form, cut_set, cut_z, cut_zero}
use Rattle.legality.proofs.Move.read.Goals as goal

pub returns-then-not-is_zero : goal.returns-then-not-is_zero
returns-then-not-is_zero c =
    let z = c.in_ok-z in
    let ys = c.in_ok-ys in
    let cut : Cut max_members c.args.cells.now z.field-0-0.now c.in_ok-padded.padded.now ys.ys.now ys.zeros.now = search rules in
    λ f. c.is_zero.ensures.1 c.if-not-is_zero.true (cut_zero cut f)

pub invariant_of-result : goal.invariant_of-result
invariant_of-result c =
    let z = c.in_ok-z in
    let ys = c.in_ok-ys in
    let cut : Cut max_members c.args.cells.now z.field-0-0.now c.in_ok-padded.padded.now ys.ys.now ys.zeros.now = search rules in
    record { few = cut_few cut }

pub returns : goal.returns
returns c =
    let z = c.in_ok-z in
    let ys = c.in_ok-ys in
    let cut : Cut max_members c.args.cells.now z.field-0-0.now c.in_ok-padded.padded.now ys.ys.now ys.zeros.now = search rules in
    record { form = cut_form cut (c.is_zero.ensures.0 c.if-not-is_zero.false); z_is = cut_z cut; set_is = cut_set cut }
