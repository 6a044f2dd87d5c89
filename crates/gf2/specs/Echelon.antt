-- An xor basis ("echelon") of N slots: slot s holds 0, or a number whose leading bit is s.
-- Beside it stand the member whose column opened it, and the slots that were taken off that column before.
use Rattle.std.specs.Prelude.{List, ◌≢◌, ◌≡◌, ◌*◌, ◌<◌, ◌^◌, ◌≤◌, suc, zero, ℕ, get_or, length}
use Rattle.std.specs.Int.Bits.{bit_xor}
use Rattle.gf2.specs.Bit.{bit}
use Rattle.gf2.specs.Selection.{combine}
use Rattle.gf2.specs.Table.{tabulate}

-- what slot s may hold: 0, or a number whose leading bit is s
pub record Lead (s x : ℕ) : Type 0 where
  pub fits : x < 2 ^ suc s
  pub leads : x ≢ 0 → 2 ^ s ≤ x

pub record Shape (N : ℕ) (vec : List ℕ) : Type 0 where
  pub long : length vec ≡ N
  pub lead : (s : ℕ) → s < N → Lead s (get_or vec s 0)

-- of a list of numbers, the slots that a mask names; the others hold nothing
unfoldable pub held : ℕ → List ℕ → List ℕ
held filled vec = tabulate (length vec) (λ s. bit filled s * get_or vec s 0)

-- the mask names slots that hold something
abbrev pub AllHold : List ℕ → ℕ → Type 0
AllHold vec mask = (s : ℕ) → bit mask s ≡ 1 → get_or vec s 0 ≢ 0

-- what is left of v after the slots in `used` were taken off it, from above: each of them lies above what is left
pub record Reached (vec : List ℕ) (v left used : ℕ) : Type 0 where
  pub taken : bit_xor (combine used vec) left ≡ v
  pub filled : AllHold vec used
  pub above : (s : ℕ) → bit used s ≡ 1 → left < 2 ^ s

-- and is stopped at slot s, which is empty
pub record Stopped (N : ℕ) (vec : List ℕ) (v s left used : ℕ) : Type 0 where
  pub slot : s < N
  pub empty : get_or vec s 0 ≡ 0
  pub lo : 2 ^ s ≤ left
  pub hi : left < 2 ^ suc s
  pub reached : Reached vec v left used

-- slot s holds what was left of v after the slots in `used`, all of them above s
pub record Opened (vec : List ℕ) (s v used : ℕ) : Type 0 where
  pub taken : bit_xor (combine used vec) (get_or vec s 0) ≡ v
  pub filled : AllHold vec used
  pub above : (j : ℕ) → bit used j ≡ 1 → s < j

-- one mask combines the slots to x, and what stands beside them to y
abbrev pub SpanBoth : List ℕ → List ℕ → ℕ → ℕ → Type 0
SpanBoth vec tag x y = (u : ℕ) × (combine u vec ≡ x) × (combine u tag ≡ y)

-- the columns κ y of all y that P allows are combinations of the slots; and in the same way their tags τ y are combinations of tags beside
-- the slots, of which an empty slot has none
pub record Covers (N : ℕ) (P : ℕ → Type 0) (κ τ : ℕ → ℕ) (vec : List ℕ) : Type 0 where
  pub shape : Shape N vec
  pub tag : List ℕ
  pub tag_long : length tag ≡ N
  pub untagged : (s : ℕ) → get_or vec s 0 ≡ 0 → get_or tag s 0 ≡ 0
  pub spans : (y : ℕ) → P y → SpanBoth vec tag (κ y) (τ y)

-- the slots are of these columns: member s is the y that opened slot s, `by` s the slots taken off its column
pub record Basis (N : ℕ) (P : ℕ → Type 0) (κ τ : ℕ → ℕ) (vec by member : List ℕ) : Type 0 where
  pub covers : Covers N P κ τ vec
  pub opened : (s : ℕ) → get_or vec s 0 ≢ 0 → Opened vec s (κ (get_or member s 0)) (get_or by s 0)
  pub tagged : (s : ℕ) → get_or vec s 0 ≢ 0
      → bit_xor (combine (get_or by s 0) covers.tag) (get_or covers.tag s 0) ≡ τ (get_or member s 0)
  pub from : (s : ℕ) → get_or vec s 0 ≢ 0 → P (get_or member s 0)

-- ---- from slots to members

-- a mask of slots turned into one of members, the first k slots gone through from below: slot s stands for its member and for the slots
-- taken off that one's column, which lie above s
unfoldable pub by_members : List ℕ → ℕ → ℕ → ℕ
by_members by m zero = m
by_members by m (suc k) = bit_xor (by_members by m k) (bit (by_members by m k) k * get_or by k 0)
