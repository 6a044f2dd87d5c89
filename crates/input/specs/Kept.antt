-- What a program keeps of its input. Which bytes the system puts there, no contract can say.
use Rattle.std.specs.Prelude.{IfSome, List, Option, ◌≡◌, ℕ, ◌<◌, length, take}
use Rattle.std.specs.Io.KnownBytes.{Consumes, IsAtEnd}

-- of a reader whose bytes are known: what was read are the first that it had, in their order, and all, unless the room is full
abbrev pub Takes : (had left : Option (List ℕ)) → (room : ℕ) → (read : List ℕ) → Type 0
Takes had left room read = Consumes had left read × (length read < room → IsAtEnd left)

-- what was read are the first bytes of an input that is known, as many as there is room for
abbrev pub Starts : (input : Option (List ℕ)) → (room : ℕ) → (read : List ℕ) → Type 0
Starts input room read = IfSome input (λ bytes. read ≡ take room bytes)
