-- Where no fault is found, what is decided is the answer.
use mathlib.Core.Path.{◌≡◌}
use borrow.Author.Rules.{rules}
use Rattle.circuit.specs.Gate.{gates_of}
use Rattle.circuit.specs.Replies.{Done}
use Rattle.circuit.specs.Run.{SameAction}
use Rattle.compare.proofs.CompareWays.{compare_differ}
use Rattle.compare.specs.Entry.{compare_reply}
use Rattle.compare.proofs.compare.Goals as goal

pub returns : goal.returns
returns c =
    let a = c.args in
    let clear : compare_reply a.n a.first.now a.second.now ≡ Done = search rules in
    let both = c.in_ok-first.ensures in
    let one = c.in_ok-first.first in
    let other = c.in_ok-first.second in
    let lists : SameAction one.wires.count (gates_of one.gates.now) (gates_of other.gates.now) → ⊥ = c.act_alike.ensures.1 (search) in
    compare_differ clear (rw (both.wires.0, both.same.0, both.same.1) at lists)
