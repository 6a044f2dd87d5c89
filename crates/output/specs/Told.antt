-- What is told of a failure. Which words the system has for it, no contract can say.
use Rattle.std.specs.Prelude.{List, Option, ◌++◌, codes, ℕ}
use Rattle.std.specs.Io.KnownBytes.{Appends}

-- a writer whose bytes are known gets what failed, a colon and a space, a reason, and a newline at the end
abbrev pub TellsFailure : (what : List ℕ) → (had holds : Option (List ℕ)) → Type 0
TellsFailure what had holds = (reason : List ℕ) × Appends had holds (what ++ (codes ": " ++ (reason ++ codes "\n")))
