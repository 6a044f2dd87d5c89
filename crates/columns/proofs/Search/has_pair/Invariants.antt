-- No member passed so far has a partner.
use mathlib.Core.Logic.{◌≢◌}
use Prim.Native.Nat.{◌<◌, ℕ}
use lib.Bits.{bit_xor}
use lib.ListN.{get_or}
use Rattle.circuit.specs.Sound.{weight}
use Rattle.columns.proofs.Search.has_pair.Given as goal

abbrev pub invariant-loop-y : goal.invariant-loop-y
invariant-loop-y l = (j : ℕ) → j < l.y-index → weight l.self.marks.now (bit_xor (get_or l.self.members.now j 0) l.z) ≢ 1
