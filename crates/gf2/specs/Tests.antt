-- What a test of the code answers.
use Rattle.std.specs.Prelude.{Bool, false, true, ◌≡◌}

-- the answer is true exactly if P holds
abbrev pub Decides : Bool → Type 0 → Type 0
Decides r P = (r ≡ true → P) × (r ≡ false → P → ⊥)
