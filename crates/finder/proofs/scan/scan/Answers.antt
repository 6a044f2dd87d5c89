-- No z passed so far has a legal move; and of this z, the columns asked so far are in the slots.
use mathlib.Core.Path.{◌≡◌, refl}
use native.Mathlib.Omega.{arith}
use Rattle.circuit.specs.Limits.{max_members, max_wires}
use Rattle.columns.proofs.Apart.{half_kept}
use Rattle.columns.proofs.InTurn.{members_had}
use Rattle.gf2.proofs.Leading.{bit-top}
use Rattle.moves.proofs.Smallest.{none_below_more, none_below_one}
use Rattle.finder.proofs.Asking.{asked_next, asked_skip, asked_start, half_for_next, half_for_one, half_for_this}
use Rattle.finder.proofs.Asking.{offered_smallest, z_passed}
use Rattle.finder.proofs.scan.scan.Goals as goal
use Rattle.finder.proofs.scan.scan.Goals.{in-Some+in_default-offer, in_default}

pub search-init : goal.search-init
search-init c =
    (record { none = none_below_one max_members max_wires c.args.search.now.marks.now; half_is = half_for_one }, refl)

pub for_z-requires : goal.for_z-requires
for_z-requires c = half_for_this (rw c.new-one.ensures.0 c.search.invariant.0.half_is) c.new-one.ensures.1

pub to_ask-i-end-requires-clause-names : goal.to_ask-i-end-requires-clause-names
to_ask-i-end-requires-clause-names c = let l = c.new-one.ensures.1 in bit-top _ _ l.lo l.hi

pub loop-i-init : goal.loop-i-init
loop-i-init c = (asked_start c.clear.ensures, c.search.invariant.1)

pub returns-in-Some-offer : goal.returns-in-Some-offer
returns-in-Some-offer c =
    let l = c.new-one.ensures.1 in
    let one = c.new-one.result in
    offered_smallest (members_had c.args.search.now.listed) c.loop-i.invariant.0 c.in-Some.ensures c.column-v.ensures one.in_range.0
    one.in_range.1 (bit-top _ _ l.lo l.hi) (rw c.new-one.ensures.0 c.search.invariant.0.none) c.in-Some-offer.ensures

pub loop-i-preserved : goal.loop-i-preserved
loop-i-preserved c =
    let m = members_had c.args.search.now.listed in
    elim c.match-turn.branch [
      | in-Some+in_default-offer w ↦
          rw w.columns-is
          (asked_next m c.loop-i.invariant.0 w.in-Some.ensures w.column-v.ensures w.in_default-offer.ensures, c.loop-i.invariant.1)
      | in_default w ↦ rw w.columns-is (asked_skip m c.loop-i.invariant.0 c.turn.ensures w.in_default.is, c.loop-i.invariant.1)
    ]

pub search-preserved : goal.search-preserved
search-preserved c =
    let l = c.new-one.ensures.1 in
    let one = c.new-one.result in
    let all : c.loop-i.i ≡ c.to_ask-i-end.result = omega arith in
    let none =
    z_passed (members_had c.args.search.now.listed) one.in_range.0 (bit-top _ _ l.lo l.hi) c.to_ask-i-end.ensures.asked
    (rw all at c.loop-i.invariant.0) in (
      record {
        none = none_below_more max_members max_wires _ c.search.invariant.0.none (rw c.new-one.ensures.0 at none);
        half_is = rw c.new-one.ensures.0 at (half_for_next l (half_kept c.for_z.ensures c.to_ask-i-end.ensures.half_stays));
      },
      c.loop-i.invariant.1,
    )

pub returns-after-search : goal.returns-after-search
returns-after-search c =
    rw c.search.invariant.1 (λ z Y l. omega (arith, c.parities-k-end.ensures.0, c.search.invariant.0.none z Y l))
