-- The wires of n are listed, and what p has with each is summed.
use mathlib.Core.Path.{◌≡◌, ◌∙◌}
use Prim.Native.Nat.{◌%◌, ◌*◌, ◌^◌}
use native.Mathlib.Omega.{arith}
use borrow.Author.Rules.{rules}
use Rattle.std.proofs.lemmas.Iterator.{YieldsList-from_map, YieldsList-from_range, serves_from_Range}
use Rattle.std.proofs.lemmas.Iterator.Consumers.{fits_from_yields_list, sum_from_yields_List}
use Rattle.circuit.proofs.Steps.{shifted}
use Rattle.rests.proofs.RestSteps.{others_listed, others_small, pair_inside, with_wire}
use Rattle.rests.proofs.weighing.SumTable.pairs_with.Goals as goal

pub sum-requires-clause-can : goal.sum-requires-clause-can
sum-requires-clause-can c = (
  tt,
  serves_from_Range (λ x q r. search rules) (λ x a b.
      let t = c.args.self.now in
      let e : c.map.result.iter ≡ record { start = 0; end = c.args.self.now.wires.count } = c.map.ensures.source in
      let f : c.map.result.iter.end ≡ c.args.self.now.wires.count = cc in
      let wire : 1 * 2 ^ x % 2 ^ 64 ≡ 2 ^ x = shifted 64 x (omega (arith, t.wires.few, b, f)) in
      let inside = pair_inside c.requires.0 c.requires.1 x (omega (arith, b, f)) in
      search rules),
)

pub sum-requires-clause-fits : goal.sum-requires-clause-fits
sum-requires-clause-fits c =
    let t = c.args.self.now in
    let n = t.wires.count in
    fits_from_yields_list c.map.result (2 ^ 32)
    (YieldsList-from_map _ (with_wire t.s.now c.args.p) (YieldsList-from_range 0 n n c.map.ensures.source (omega arith))
    c.map.ensures.closure (λ x r q k. search rules))
    (omega (arith, t.wires.few, others_listed t.s.now c.args.p n t.wires.few, others_small t.s.now c.args.p n))

pub returns-clause-is : goal.returns-clause-is
returns-clause-is c =
    let t = c.args.self.now in
    let n = t.wires.count in
    sum_from_yields_List c.map.result _ c.sum.ensures.ran
    (YieldsList-from_map _ (with_wire t.s.now c.args.p) (YieldsList-from_range 0 n n c.map.ensures.source (omega arith))
    c.map.ensures.closure (λ x r q k. search rules))
    ∙ others_listed t.s.now c.args.p n t.wires.few

pub returns-clause-at_most : goal.returns-clause-at_most
returns-clause-at_most c = omega (arith, returns-clause-is c, others_small c.args.self.now.s.now c.args.p c.args.self.now.wires.count)
