-- One parity more, and the end.
use mathlib.Core.Path.{ap, ◌∙◌, ◌≡◌}
use native.Mathlib.Omega.{arith}
use lib.IntN.{pos}
use lib.ListN.{get_or, length}
use Rattle.std.proofs.lemmas.Int.{ints}
use Rattle.weights.proofs.OneSum.{share_le, so_far, so_far_all, so_far_next, so_far_none}
use Rattle.weights.proofs.sums.Weights.sum_with.Goals as goal

pub loop-p-init : goal.loop-p-init
loop-p-init c =
    let a = c.args in
    let none = so_far_none a.self.now.w.now a.i a.j a.k in
    (omega (arith, ints), omega arith)

pub overflow_add-s : goal.overflow_add-s
overflow_add-s c =
    let a = c.args in
    let p = c.loop-p.p in
    let le = share_le (get_or a.self.now.w.now p 0) p a.i a.j a.k in
    omega (arith, ints, c.share-s.ensures, le)

pub loop-p-preserved : goal.loop-p-preserved
loop-p-preserved c =
    let a = c.args in
    let p = c.loop-p.p in
    let le = share_le (get_or a.self.now.w.now p 0) p a.i a.j a.k in
    let next = so_far_next a.self.now.w.now a.i a.j a.k p in
    (omega (arith, ints, c.share-s.ensures, le, next), omega (arith, le, next))

pub returns : goal.returns
returns c =
    let a = c.args in
    let w = a.self.now.w.now in
    let at : c.loop-p.p ≡ length w = omega arith in
    let all = ap (so_far w a.i a.j a.k) at ∙ so_far_all w a.i a.j a.k in
    (c.loop-p.invariant.0 ∙ ap pos all, omega (arith, all))
