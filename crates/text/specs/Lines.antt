-- Document 01, "Text form": a text's lines, each the bytes up to a newline. Bytes after the last newline, if there are any, are a line that
-- lacks its newline. An empty text has no line.
use Rattle.std.specs.Prelude.{Bool, ◌&&◌, cond, false, true, List, [], ◌∷◌, ◌++◌, ◌*◌, ◌+◌, suc, zero, ℕ, eqb, get_or}
use Rattle.text.specs.Hex.{is_digit, newline, value_of}

-- the bytes of a line before its newline, or of one that lacks it
pub data Line : Type 0 where
  ended : List ℕ → Line
  unended : List ℕ → Line

abbrev pub longer : ℕ → Line → Line
longer b (ended bs) = ended (b ∷ bs)
longer b (unended bs) = unended (b ∷ bs)

-- one more byte in front
abbrev pub in_front : ℕ → List Line → List Line
in_front b [] = unended (b ∷ []) ∷ []
in_front b (l ∷ ls) = longer b l ∷ ls

-- the lines of a text, from its last byte to its first
unfoldable pub lines_of : List ℕ → List Line
lines_of [] = []
lines_of (b ∷ bs) = cond (eqb b newline) (ended [] ∷ lines_of bs) (in_front b (lines_of bs))

-- exactly k bytes, each a digit
unfoldable pub are_digits : ℕ → List ℕ → Bool
are_digits zero [] = true
are_digits zero (b ∷ bs) = false
are_digits (suc k) [] = false
are_digits (suc k) (b ∷ bs) = is_digit b && are_digits k bs

-- the form of a line: k digits and a newline
abbrev pub formed : ℕ → Line → Bool
formed k (ended bs) = are_digits k bs
formed k (unended bs) = false

-- the byte that two digits stand for
abbrev pub pair : ℕ → ℕ → ℕ
pair a b = 16 * value_of a + value_of b

-- the bytes that digits stand for, two digits each
unfoldable pub decoded : List ℕ → List ℕ
decoded [] = []
decoded (a ∷ []) = []
decoded (a ∷ b ∷ bs) = pair a b ∷ decoded bs

abbrev pub line_decoded : Line → List ℕ
line_decoded (ended bs) = decoded bs
line_decoded (unended bs) = decoded bs

-- the bytes that lines stand for, one line after the other
unfoldable pub lines_decoded : List Line → List ℕ
lines_decoded [] = []
lines_decoded (l ∷ ls) = line_decoded l ++ lines_decoded ls

-- ---- the same by places, as a loop over the bytes meets it

-- the first line has that form; where there is no line, none has
abbrev pub first_formed : ℕ → List Line → Bool
first_formed k [] = false
first_formed k (l ∷ ls) = formed k l

-- the byte that the digits at places p and p + 1 stand for
abbrev pub byte_at : List ℕ → ℕ → ℕ
byte_at t p = pair (get_or t p 0) (get_or t (p + 1) 0)

-- the three bytes of the gate whose digits start at place p
abbrev pub gate_decoded_at : List ℕ → ℕ → List ℕ
gate_decoded_at t p = byte_at t p ∷ byte_at t (p + 2) ∷ byte_at t (p + 4) ∷ []
