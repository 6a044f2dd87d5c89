-- The masks are recounted from the front, where they lie.
use native.Mathlib.Omega.{arith}
use borrow.Author.Rules.{rules}
use Rattle.synth.proofs.RowTurns.{recount_first, recount_last, recount_named, recount_other}
use Rattle.synth.proofs.masks.recount_masks.Goals as goal
use Rattle.synth.proofs.masks.recount_masks.Goals.{else-names, then-names}

pub loop-m-init : goal.loop-m-init
loop-m-init c = recount_first _ _ _

pub loop-m-preserved : goal.loop-m-preserved
loop-m-preserved c =
    elim c.if-names.branch [
      | then-names w ↦ recount_named c.loop-m.invariant (omega arith) (search rules) w.masks-is
      | else-names w ↦ recount_other c.loop-m.invariant (omega arith) (search rules) w.masks-is
    ]

pub returns : goal.returns
returns c = recount_last c.loop-m.invariant (omega arith)
