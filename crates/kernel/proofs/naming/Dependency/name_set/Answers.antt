-- The marks of the members of the slots passed so far, their xor, and a number that none of them is above.
use mathlib.Core.Path.{refl}
use Rattle.kernel.proofs.SetsNamed.{naming_end, naming_start, naming_turn}
use Rattle.kernel.proofs.naming.Dependency.name_set.Goals as goal

pub loop-s-init : goal.loop-s-init
loop-s-init c =
    let d = c.args.self.now in
    rw c.into_iter-s-iterator.ensures.into_iter_gives
    (naming_start d.mask d.columns.now.member d.is_parity c.requires c.new-s-items.ensures)

pub loop-s-preserved : goal.loop-s-preserved
loop-s-preserved c =
    naming_turn c.loop-s.invariant c.args.self.now.columns.now.members c.in-Some.ensures.steps refl c.flip_mark.ensures

pub returns : goal.returns
returns c =
    let d = c.args.self.now in
    naming_end c.loop-s.invariant d.columns.now.members d.is_parity c.in-None.ensures.steps c.flip_mark-2.ensures
