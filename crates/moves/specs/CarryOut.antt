-- Document 01, "Legal moves": carrying out a move; document 02, 2.4: how many marks then differ from before.
use Rattle.std.specs.Prelude.{List, [], ◌∷◌, ◌%◌, ◌+◌, suc, zero, ℕ, eqb, get_or, length, set}
use Rattle.std.specs.Int.Bits.{bit_xor}
use Rattle.circuit.specs.Read.{either}
use Rattle.gf2.specs.Sum.{sum}

-- flip the mark of p
abbrev pub flip : List ℕ → ℕ → List ℕ
flip marks p = set marks p ((get_or marks p 0 + 1) % 2)

-- flip the mark of y and of y XOR z for each y in Y
unfoldable pub flip_pairs : List ℕ → ℕ → List ℕ → List ℕ
flip_pairs marks z [] = marks
flip_pairs marks z (y ∷ Y) = flip_pairs (flip (flip marks y) (bit_xor y z)) z Y

-- flip the mark of p unless b is 0
unfoldable pub flip_if : ℕ → List ℕ → ℕ → List ℕ
flip_if zero marks p = marks
flip_if (suc b) marks p = flip marks p

-- and, if Y has an odd number, flip the mark of z. Mark 0 is then cleared
unfoldable pub carry_out : List ℕ → ℕ → List ℕ → List ℕ
carry_out marks z Y = set (flip_if (length Y % 2) (flip_pairs marks z Y) z) 0 0

-- 1 where two marks differ, else 0
unfoldable pub unlike : ℕ → ℕ → ℕ
unlike x y = either (eqb x y) 0 1

-- how many marks differ: the parities whose mark at exit is not the one at entry
unfoldable pub differing : List ℕ → List ℕ → ℕ
differing marks marks' = sum (length marks) (λ p. unlike (get_or marks p 0) (get_or marks' p 0))
