-- Legality as tests that compute: the same conditions, looked at one by one.
use Rattle.std.specs.Prelude.{Bool, ◌&&◌, false, not, true, List, [], ◌∷◌, ◌%◌, ◌-◌, suc, ℕ, eqb, leb, ltb, get_or, length}
use Rattle.std.specs.Int.Bits.{bit_xor}
use Rattle.circuit.specs.Sound.{weight}
use Rattle.gf2.specs.Every.{any, every}
use Rattle.gf2.specs.Over.{sum_over, xor_all}
use Rattle.moves.specs.Log.{as_cells, set_of, z_of}
use Rattle.moves.specs.Move.{triple}

abbrev pub is_in : ℕ → List ℕ → Bool
is_in y Y = any (length Y) (λ i. eqb (get_or Y i 0) y)

abbrev pub is_ascending : List ℕ → Bool
is_ascending Y = every (length Y - 1) (λ i. ltb (get_or Y i 0) (get_or Y (suc i) 0))

abbrev pub is_member : List ℕ → ℕ → Bool
is_member marks p = eqb (weight marks p) 1

-- all of Y are members
abbrev pub are_members : List ℕ → List ℕ → Bool
are_members marks Y = every (length Y) (λ i. is_member marks (get_or Y i 0))

-- for some a in Y, a XOR z is a member and not in Y
abbrev pub is_separating : List ℕ → ℕ → List ℕ → Bool
is_separating marks z Y = any (length Y) (λ i. is_member marks (bit_xor (get_or Y i 0) z) && not (is_in (bit_xor (get_or Y i 0) z) Y))

abbrev pub is_balanced : ℕ → ℕ → List ℕ → Bool
is_balanced n z Y = eqb (xor_all Y) 0 && every n (λ k. every k (λ j. every j (λ i. eqb (sum_over (triple z i j k) Y % 2) 0)))

unfoldable pub is_legal : ℕ → ℕ → List ℕ → ℕ → List ℕ → Bool
is_legal most n marks z Y = leb (length Y) most && is_ascending Y && are_members marks Y && is_separating marks z Y && is_balanced n z Y

-- two lists are equal
unfoldable pub same_cells : List ℕ → List ℕ → Bool
same_cells [] [] = true
same_cells [] (y ∷ ys) = false
same_cells (x ∷ xs) [] = false
same_cells (x ∷ xs) (y ∷ ys) = eqb x y && same_cells xs ys

-- the cells are those of a legal move for these marks
unfoldable pub is_move : ℕ → ℕ → List ℕ → List ℕ → Bool
is_move most n marks cells =
    same_cells cells (as_cells most (z_of cells) (set_of cells)) && is_legal most n marks (z_of cells) (set_of cells)
