-- Document 01, "Legal moves": carrying out logged moves in order; document 02, 2.7: each with the smallest z.
use Rattle.std.specs.Prelude.{List, [], ◌∷◌, ◌≡◌, ℕ}
use Rattle.moves.specs.CarryOut.{carry_out}
use Rattle.moves.specs.Log.{LegalCells, set_of, z_of}
use Rattle.moves.specs.Move.{NoneBelow}

-- from the marks m, each move is legal on the marks that the one before left; the last one leaves the marks m'
unfoldable pub Replays : ℕ → ℕ → List ℕ → List (List ℕ) → List ℕ → Type 0
Replays most n m [] m' = m ≡ m'
Replays most n m (cells ∷ moves) m' = (f : LegalCells most n m cells) × Replays most n (carry_out m f.z f.Y) moves m'

-- from the marks m, no legal move has a smaller z than the one made, on the marks that this one gets; z and Y as the cells say them, which
-- for legal cells are those of `Replays`
unfoldable pub SmallestEach : ℕ → ℕ → List ℕ → List (List ℕ) → Type 0
SmallestEach most n m [] = Unit {0}
SmallestEach most n m (cells ∷ moves) =
    NoneBelow most n m (z_of cells) × SmallestEach most n (carry_out m (z_of cells) (set_of cells)) moves
