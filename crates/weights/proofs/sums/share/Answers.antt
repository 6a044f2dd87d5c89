-- A weight counts where the parity names all three wires.
use mathlib.Core.Path.{◌∙◌, ◌≡◌}
use native.Mathlib.Omega.{arith}
use lib.IntN.{pos}
use mir.Syntax.{w32}
use mir.Val.{of_z, to_z}
use Rattle.std.proofs.lemmas.Int.{ints}
use Rattle.weights.proofs.OneSum.{share_no_i, share_no_j, share_no_k, share_whole}
use Rattle.weights.proofs.sums.share.Goals as goal
use Rattle.weights.proofs.sums.share.Goals.{else-p-i-eq1-via-else-p-i-eq1, else-p-i-eq1-via-then-p-i-eq1+else-p-j-eq1}
use Rattle.weights.proofs.sums.share.Goals.{else-p-i-eq1-via-then-p-i-eq1+then-p-j-eq1+else-p-k-eq1}

pub returns-then-p-k-eq1 : goal.returns-then-p-k-eq1
returns-then-p-k-eq1 c =
    let same : to_z w32 (of_z w32 c.from.result) ≡ pos c.args.x = omega (arith, ints, c.from.ensures) in
    same ∙ share_whole c.args.x c.args.p _ _ _ c.if-p-i-eq1.true c.if-p-j-eq1.true c.if-p-k-eq1.true

pub returns-else-p-i-eq1 : goal.returns-else-p-i-eq1
returns-else-p-i-eq1 c =
    elim c.else-p-i-eq1.branch [
      | else-p-i-eq1-via-then-p-i-eq1+then-p-j-eq1+else-p-k-eq1 b ↦ share_no_k c.args.x c.args.p _ _ _ b.if-p-k-eq1.false
      | else-p-i-eq1-via-then-p-i-eq1+else-p-j-eq1 b ↦ share_no_j c.args.x c.args.p _ _ _ b.if-p-j-eq1.false
      | else-p-i-eq1-via-else-p-i-eq1 b ↦ share_no_i c.args.x c.args.p _ _ _ b.if-p-i-eq1.false
    ]
