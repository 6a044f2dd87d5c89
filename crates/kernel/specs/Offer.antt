-- What is said of a column that is asked: v, that of a, for z.
use Rattle.std.specs.Prelude.{List, None, Option, Some, ◌≢◌, ◌⊎◌, ◌≡◌, ℕ}
use Rattle.circuit.specs.Limits.{product_bits}
use Rattle.echelon.specs.Columns.{Opens, holding}
use Rattle.echelon.specs.declared.Echelon.{Echelon}
use Rattle.gf2.specs.Echelon.{Reached, by_members}
use Rattle.kernel.specs.Naming.{MoveOf, NoPair}

-- v came down to 0, and the slots in `used` name, with a, the set of the move
pub record Offered (marks : List ℕ) (a z v : ℕ) (e : Echelon) (cells : List ℕ) : Type 0 where
  pub some : a ≢ 0
  pub used : ℕ
  pub reached : Reached (holding e.slots) v 0 used
  pub move : MoveOf marks z a (by_members e.by used product_bits) e.member cells

-- it came down to 0, and that set has no one of a pair
pub record Unpaired (marks : List ℕ) (a z v : ℕ) (e : Echelon) : Type 0 where
  pub used : ℕ
  pub reached : Reached (holding e.slots) v 0 used
  pub none : NoPair marks z a (by_members e.by used product_bits) e.member

-- nothing was offered: a is 0; or v opened a slot; or its set has no one of a pair. But for a slot that is opened all is as it was
abbrev pub Passes : List ℕ → ℕ → ℕ → ℕ → Echelon → Echelon → Type 0
Passes marks a z v e e' =
    ((a ≡ 0) × (e' ≡ e)) ⊎ ((a ≢ 0) × Opens a v e e') ⊎ ((a ≢ 0) × Unpaired marks a z v e × (e' ≡ e))

-- `offer`: a column is asked; the slots and what stands beside them, before and after
abbrev pub Offers : List ℕ → ℕ → ℕ → ℕ → Echelon → Echelon → Option (List ℕ) → Type 0
Offers marks a z v e e' (Some cells) = Offered marks a z v e cells
Offers marks a z v e e' None = Passes marks a z v e e'
