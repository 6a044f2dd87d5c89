-- Lower-case hex digits and the two other bytes of the text form, in ASCII.
use Rattle.std.specs.Prelude.{Bool, ◌&&◌, ◌||◌, List, [], ◌∷◌, ◌++◌, ◌%◌, ◌+◌, ◌-◌, ◌/◌, ℕ, leb, ltb}
use Rattle.circuit.specs.Read.{either}
use Rattle.text.specs.Limits.{byte_values}

-- the byte that ends a line
abbrev pub newline : ℕ
newline = 10

-- the byte between two numbers
abbrev pub space : ℕ
space = 32

-- `0` to `9`
abbrev pub is_decimal : ℕ → Bool
is_decimal b = leb 48 b && leb b 57

-- `a` to `f`
abbrev pub is_letter : ℕ → Bool
is_letter b = leb 97 b && leb b 102

unfoldable pub is_digit : ℕ → Bool
is_digit b = is_decimal b || is_letter b

-- the number that a digit stands for; a byte that is no digit stands for 0
unfoldable pub value_of : ℕ → ℕ
value_of b = either (is_decimal b) (b - 48) (either (is_letter b) (b - 87) 0)

-- the digit for a number below 16
unfoldable pub digit : ℕ → ℕ
digit v = either (ltb v 10) (48 + v) (87 + v)

-- the last two digits of a number
abbrev pub hex2 : ℕ → List ℕ
hex2 v = digit (v / 16 % 16) ∷ digit (v % 16) ∷ []

-- the last four digits of a number
abbrev pub hex4 : ℕ → List ℕ
hex4 v = hex2 (v / byte_values) ++ hex2 v
