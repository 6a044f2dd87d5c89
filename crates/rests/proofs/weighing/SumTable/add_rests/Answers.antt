-- One parity more, and the end.
use mathlib.Core.Path.{ap, ◌∙◌, ◌≡◌}
use Prim.Native.Nat.{◌%◌, ◌+◌, ◌^◌, ℕ, ◌≤◌}
use lib.ListN.{get_or, length}
use lib.Pow.{pow_mono}
use lib.Seq.{length-take-le}
use Rattle.circuit.specs.Limits.{max_wires}
use native.Mathlib.Omega.{arith}
use Rattle.rests.proofs.RestSteps.{below_take, rests_end, rests_next, rests_start, rests_stay}
use Rattle.rests.proofs.weighing.SumTable.add_rests.Goals as goal
use Rattle.rests.proofs.weighing.SumTable.add_rests.Goals.{then-wires_of-le2, else-wires_of-le2}

pub loop-p-init : goal.loop-p-init
loop-p-init c = rests_start _ _ _

pub loop-p-preserved : goal.loop-p-preserved
loop-p-preserved c =
    let t = c.loop-p in
    let before = t.x-items in
    elim c.if-wires_of-le2.branch [
      | then-wires_of-le2 w ↦
          let same = ap (λ (r : ℕ). (get_or before t.p 0 + r) % 8) w.rest.ensures.0 in
          rw w.x-items-is (rests_next _ t.invariant (omega arith) (w.with_rest.ensures ∙ same))
      | else-wires_of-le2 w ↦
          let small = below_take (length c.args.self.now.s.now) c.args.out.now c.requires in
          let more = w.if-wires_of-le2.false in
          rw w.x-items-is (rests_next _ t.invariant (omega arith) (rests_stay _ t.invariant small (omega arith) c.wires_of.ensures (omega arith)))
    ]

pub returns : goal.returns
returns c =
    let t = c.args.self.now in
    let room : 2 ^ t.wires.count ≤ length c.args.out.now = omega (arith, pow_mono {i = t.wires.count} {j = max_wires} t.wires.few) in
    let front = length-take-le (length t.s.now) c.args.out.now (omega (arith, t.fit)) in
    let all : c.loop-p.p ≡ 2 ^ t.wires.count = omega (arith, t.fit, front) in
    rw t.fit (rests_end room (rw (all, t.fit) at c.loop-p.invariant))
