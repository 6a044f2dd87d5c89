-- The mark of z, for an odd number alone.
use native.Mathlib.Omega.{arith}
use Rattle.carry.proofs.Carrying.{even_kept, odd_flipped}
use Rattle.carry.proofs.flips.flip_if_odd.Goals as goal

pub returns-then-count-eq0 : goal.returns-then-count-eq0
returns-then-count-eq0 c = even_kept c.args.marks.now c.args.z c.args.count c.if-count-eq0.true

pub returns : goal.returns
returns c =
    odd_flipped c.args.marks.now c.args.z c.args.count c.if-count-eq0.false c.flip_mark.ensures
    (omega (arith, c.from-zero.ensures, c.mark_at.ensures, c.requires.enough))
