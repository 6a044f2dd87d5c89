-- The places passed have their entries.
use Rattle.std.proofs.Common.{◌<◌, ℕ, get_or}
use Rattle.weights.proofs.lists.put_list.Given as goal

abbrev pub invariant-loop-p : goal.invariant-loop-p
invariant-loop-p g l = (k : ℕ) → k < l.p → goal.F-post g l.entry k (get_or l.list k 0)
