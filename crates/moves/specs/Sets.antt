-- A set of numbers is a list of them in ascending order. It is looked at by position.
use Rattle.std.specs.Prelude.{List, [], ◌++◌, ◌∷◌, ◌≡◌, ◌<◌, suc, zero, ℕ, get_or, length}

-- y is in Y
abbrev pub In : ℕ → List ℕ → Type 0
In y Y = (i : ℕ) × (i < length Y) × (get_or Y i 0 ≡ y)

-- each number is below the next
abbrev pub Ascending : List ℕ → Type 0
Ascending Y = (i : ℕ) → suc i < length Y → get_or Y i 0 < get_or Y (suc i) 0

-- k if b is not 0, else nothing
unfoldable pub only : ℕ → ℕ → List ℕ
only zero k = []
only (suc b) k = k ∷ []

-- the numbers below k that f marks, in ascending order
unfoldable pub listed : ℕ → (ℕ → ℕ) → List ℕ
listed zero f = []
listed (suc k) f = listed k f ++ only (f k) k
