-- No z passed so far has a legal move; and of this z, the columns asked so far are in the slots.
use mathlib.Core.Path.{◌≡◌}
use Rattle.std.specs.Prelude.{None}
use Rattle.finder.proofs.Asking.{AskedBefore, ScannedTo}
use Rattle.finder.proofs.scan.scan.Given as goal

abbrev pub invariant-search : goal.invariant-search
invariant-search l = ScannedTo l.search.marks.now l.search.members.now l.k l.half × (l.best ≡ None)

abbrev pub invariant-loop-i : goal.invariant-loop-i
invariant-loop-i l = AskedBefore l.search.marks.now l.search.members.now l.one.z l.one.t l.i l.columns × (l.best ≡ None)
