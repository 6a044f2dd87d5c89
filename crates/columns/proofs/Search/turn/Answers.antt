-- Each way out by its law.
use mathlib.Core.Path.{refl}
use native.Mathlib.Omega.{arith}
use Rattle.columns.proofs.InTurn.{members_had, turn_alone, turn_of_pair, turn_of_single, turn_with_wire}
use Rattle.columns.proofs.Search.turn.Goals as goal
use Rattle.columns.proofs.Search.turn.Goals.{then-y-one-eq1-via-else-y-one-eq1+then-mark_at-eq0, then-y-one-eq1-via-then-y-one-eq1}

pub returns-then-y-one-eq1 : goal.returns-then-y-one-eq1
returns-then-y-one-eq1 c =
    let m = members_had c.args.self.now.listed in
    elim c.then-y-one-eq1.branch [
      | then-y-one-eq1-via-then-y-one-eq1 w ↦ turn_with_wire m (omega arith) refl w.if-y-one-eq1.true
      | then-y-one-eq1-via-else-y-one-eq1+then-mark_at-eq0 w ↦ turn_alone m (omega arith) refl w.mark_at.ensures w.if-mark_at-eq0.true
    ]

pub returns-then-i-places : goal.returns-then-i-places
returns-then-i-places c =
    turn_of_pair (members_had c.args.self.now.listed) (omega arith) refl c.if-y-one-eq1.false c.mark_at.ensures c.if-mark_at-eq0.false

pub returns : goal.returns
returns c =
    turn_of_single (members_had c.args.self.now.listed) (omega arith) (omega arith) refl c.mark_at-2.ensures c.if-mark_at-eq1.false
