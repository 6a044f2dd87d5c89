-- How a line on standard error starts. Which bytes the system gives for an argument, no contract can say.
use Rattle.std.specs.Prelude.{List, ◌≡◌, ℕ, ◌≤◌, codes, length, take}

-- `same: ` has so many bytes
abbrev pub prefix : ℕ
prefix = 6

-- it, and then the name of a file
pub record Named (name : List ℕ) : Type 0 where
  pub after : prefix ≤ length name
  pub says : take prefix name ≡ codes "same: "
