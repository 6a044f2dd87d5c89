-- What is left of v is below 2 ^ product_bits, and the slots taken off it make up the difference; what is left falls at each turn.
use mathlib.Core.Path.{◌≡◌}
use native.Mathlib.Omega.{arith}
use Rattle.gf2.proofs.Echelon.{reached_start}
use Rattle.gf2.specs.Echelon.{held}
use Rattle.echelon.proofs.Masks.{machine_takes, masked_falls, off, stopped}
use Rattle.echelon.proofs.basis.Slots.reduce.Goals as goal

pub loop-left-init : goal.loop-left-init
loop-left-init c = (c.args.v.narrow, reached_start (held c.args.self.now.filled c.args.self.now.vec) c.args.v.bits)

pub overflow_shl-used : goal.overflow_shl-used
overflow_shl-used c = omega (arith, c.leading-slot.ensures.slot)

pub returns-then-self-slot-eq0 : goal.returns-then-self-slot-eq0
returns-then-self-slot-eq0 c =
    let b = c.leading-slot.ensures in
    (off c.args.self.now.masked b c.if-self-slot-eq0.true, stopped c.args.self.now.masked b c.if-self-slot-eq0.true c.loop-left.invariant.1)

pub loop-left-smaller : goal.loop-left-smaller
loop-left-smaller c =
    masked_falls c.args.self.now.masked c.leading-slot.ensures c.if-self-slot-eq0.false

pub loop-left-preserved : goal.loop-left-preserved
loop-left-preserved c = (
  omega (arith, masked_falls c.args.self.now.masked c.leading-slot.ensures c.if-self-slot-eq0.false),
  machine_takes c.args.self.now.masked c.leading-slot.ensures c.if-self-slot-eq0.false c.loop-left.invariant.1,
)

pub returns : goal.returns
returns c =
    let e : c.loop-left.left ≡ 0 = omega arith in
    rw e at c.loop-left.invariant.1

pub overflow_shr-self : goal.overflow_shr-self
overflow_shr-self c = omega (arith, c.leading-slot.ensures.slot)
