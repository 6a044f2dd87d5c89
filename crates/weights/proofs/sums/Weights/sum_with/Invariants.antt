-- The sum over the parities passed.
use Rattle.std.proofs.Common.{◌*◌, ◌≡◌, ◌≤◌, pos}
use Rattle.circuit.specs.Limits.{most_byte}
use Rattle.weights.proofs.OneSum.{so_far}
use Rattle.weights.proofs.sums.Weights.sum_with.Given as goal

abbrev pub invariant-loop-p : goal.invariant-loop-p
invariant-loop-p l = (l.s ≡ pos (so_far l.self.w.now l.i l.j l.k l.p)) × (so_far l.self.w.now l.i l.j l.k l.p ≤ most_byte * l.p)
