-- Those passed are members, each above the one before; `last` is the last of them, or 0.
use mathlib.Core.Path.{◌≡◌}
use Prim.Native.Nat.{◌<◌, suc, ℕ}
use lib.ListN.{get_or}
use Rattle.circuit.specs.OddSet.{Member}
use Rattle.legality.proofs.Move.is_set.Given as goal

abbrev pub invariant-loop-y : goal.invariant-loop-y
invariant-loop-y l =
    record {
      members : (j : ℕ) → j < l.y-index → Member l.odd.marks.now (get_or l.self.ys.now j 0);
      rising : (j : ℕ) → suc j < l.y-index → get_or l.self.ys.now j 0 < get_or l.self.ys.now (suc j) 0;
      before : (j : ℕ) → suc j ≡ l.y-index → l.last ≡ get_or l.self.ys.now j 0;
      first : l.y-index ≡ 0 → l.last ≡ 0;
    }
