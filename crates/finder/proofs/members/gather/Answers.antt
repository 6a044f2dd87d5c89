-- The list so far holds the members passed.
use mathlib.Core.Path.{refl}
use Prim.Native.Nat.{◌<◌}
use native.Mathlib.Omega.{arith}
use Rattle.std.proofs.Common.{get_or-take}
use Rattle.finder.proofs.Listing.{gather_next, gather_none}
use Rattle.finder.proofs.members.gather.Goals as goal

pub loop-p-init : goal.loop-p-init
loop-p-init c = gather_none (omega arith)

pub loop-p-preserved : goal.loop-p-preserved
loop-p-preserved c =
    let inside : c.loop-p.p < c.args.size = omega arith in
    rw (c.from-count.ensures, get_or-take) (gather_next c.loop-p.invariant (omega arith) (c.requires.0.bits c.loop-p.p) refl)
