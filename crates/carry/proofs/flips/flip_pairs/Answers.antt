-- What is left of the set flips the marks so far to what the whole set makes of those lent, and as many differ as the count so far says.
use mathlib.Core.Path.{refl}
use native.Mathlib.Omega.{arith}
use Rattle.carry.proofs.Carrying.{few_up, flipped_all, flipped_next, flipped_none, mark_small}
use Rattle.carry.proofs.flips.flip_pairs.Goals as goal

pub loop-y-init : goal.loop-y-init
loop-y-init c = flipped_none c.requires

-- the mark of y is 0 or 1
pub overflow_add-up : goal.overflow_add-up
overflow_add-up c =
    let t = c.loop-y.invariant in
    let small = mark_small c.requires t (omega arith) refl in
    record { fits = omega (arith, c.from-up.ensures, c.mark_at.ensures, small, few_up c.requires t (omega arith)) }

pub loop-y-preserved : goal.loop-y-preserved
loop-y-preserved c =
    flipped_next c.requires c.loop-y.invariant (omega arith) refl (omega (arith, c.from-up.ensures, c.mark_at.ensures)) c.flip_mark.ensures
    c.flip_mark-in-loop-y.ensures

-- as many more as less at the least, and not too many
pub overflow_mul-result : goal.overflow_mul-result
overflow_mul-result c = record { fits = omega (arith, few_up c.requires c.loop-y.invariant (omega arith)) }

pub overflow_sub-result : goal.overflow_sub-result
overflow_sub-result c = omega (arith, c.loop-y.invariant.counted)

pub returns : goal.returns
returns c =
    flipped_all c.requires c.loop-y.invariant (omega arith) (omega arith) (omega (arith, c.loop-y.invariant.counted))
