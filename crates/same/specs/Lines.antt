-- What the program prints for two texts. What the system does with the bytes that it takes, no contract can say: this is said of every
-- writer whose bytes are known.
use Rattle.std.specs.Prelude.{List, Option, ◌≡◌, ℕ, ◌≤◌, length, take}
use Rattle.std.specs.Io.KnownBytes.{Appends}
use Rattle.text.specs.Limits.{refused_line_bytes}
use Rattle.text.specs.Text.{read_text}
use Rattle.verdict.specs.Verdicts.{VerdictOn, bytes_of}
use Rattle.verdict.specs.declared.Verdict.{Verdict}

-- the line of a verdict on two texts, as `put_verdict` leaves it in lent bytes
pub record LineFor (first second line : List ℕ) : Type 0 where
  pub was : List ℕ
  pub left : List ℕ
  pub said : Option Verdict
  pub room : refused_line_bytes ≤ length was
  pub verdict : VerdictOn (read_text first) (read_text second) was left said
  pub stands : line ≡ take (bytes_of said) left

-- the writer gets that line, and nothing else
abbrev pub Says : (first second : List ℕ) → (had holds : Option (List ℕ)) → Type 0
Says first second had holds = (line : List ℕ) × LineFor first second line × Appends had holds line

-- it gets the first part of the line, which may be all of it or nothing
abbrev pub SaysInPart : (first second : List ℕ) → (had holds : Option (List ℕ)) → Type 0
SaysInPart first second had holds = (line : List ℕ) × (count : ℕ) × LineFor first second line × Appends had holds (take count line)
