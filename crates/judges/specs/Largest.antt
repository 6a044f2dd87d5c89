-- The largest of some bytes of a table. One number then tells of all of them whether they keep to a limit.
use Rattle.std.specs.Prelude.{List, ◌<◌, ◌≤◌, ℕ, get_or}

-- every byte from one place to before another is at most m
abbrev pub AllAtMost : ℕ → ℕ → List ℕ → ℕ → Type 0
AllAtMost from to table m = (p : ℕ) → from ≤ p → p < to → get_or table p 0 ≤ m

-- r is the largest of them, 0 where there are none: none is above it, and it is at most whatever all of them are
pub record Largest (from to : ℕ) (table : List ℕ) (r : ℕ) : Type 0 where
  pub none_above : AllAtMost from to table r
  pub least : (m : ℕ) → AllAtMost from to table m → r ≤ m
