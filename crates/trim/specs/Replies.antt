-- What the program prints for a text. Which bytes the system gives for standard input, and what it does with those that it takes, no
-- contract can say: this is said of every reader and writer whose bytes are known.
use Rattle.std.specs.Prelude.{IfSome, List, Option, ℕ, take}
use Rattle.std.specs.Io.KnownBytes.{Appends, Keeps}
use Rattle.answer.specs.Printed.{Prints}
use Rattle.text.specs.Text.{read_text}
use Rattle.trim.specs.declared.Failure.{Failure}
use Rattle.trim.specs.declared.Failure.TheVariants.{Reading, Writing}

-- the writer gets what is printed for the text, and nothing else
abbrev pub Replies : (text : List ℕ) → (had holds : Option (List ℕ)) → Type 0
Replies text had holds = (reply : List ℕ) × Prints (read_text text) reply × Appends had holds reply

-- it gets the first part of that, which may be all of it or nothing
abbrev pub RepliesInPart : (text : List ℕ) → (had holds : Option (List ℕ)) → Type 0
RepliesInPart text had holds = (reply : List ℕ) × (count : ℕ) × Prints (read_text text) reply × Appends had holds (take count reply)

-- where the input cannot be read, nothing is printed for a part of it; where the output cannot be written, the first part may be
abbrev pub LeftBy : Failure → (input had holds : Option (List ℕ)) → Type 0
LeftBy (Reading error) input had holds = Keeps had holds
LeftBy (Writing error) input had holds = IfSome input (λ text. RepliesInPart text had holds)
