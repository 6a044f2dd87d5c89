-- The sums passed tell nothing.
use mathlib.Core.Path.{◌≡◌}
use Prim.Native.Nat.{◌%◌, ◌<◌, ℕ}
use lib.Count.{ones}
use Rattle.circuit.specs.Sound.{weight}
use Rattle.compare.specs.Deciding.{modulus}
use Rattle.compare.proofs.deciding.none_tells.Given as goal

abbrev pub invariant-loop-p : goal.invariant-loop-p
invariant-loop-p l = (k : ℕ) → k < l.p → weight l.sums k % modulus (ones k) ≡ 0
