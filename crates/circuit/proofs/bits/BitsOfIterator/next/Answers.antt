-- By the count of zeros below it.
use mathlib.Core.Path.{refl}
use native.Mathlib.Omega.{arith}
use Rattle.gf2.proofs.Leading.{next_bit, next_none}
use Rattle.circuit.proofs.bits.BitsOfIterator.next.Goals as goal

pub returns-then-bit-self-clause-steps : goal.returns-then-bit-self-clause-steps
returns-then-bit-self-clause-steps c =
    let l = c.args.self.now in
    record { none = next_none (next_bit l.end 64 l.mask l.from (omega arith)) l.inside.0 (omega arith); same = refl }

pub returns-clause-steps : goal.returns-clause-steps
returns-clause-steps c =
    let l = c.args.self.now in
    record {
      inside = omega arith;
      next = next_bit l.end 64 l.mask l.from (omega arith);
      mask_is = refl;
      end_is = refl;
      from_is = refl;
    }
