-- Document 01, "Legal moves": a move is a number z and a set Y of members of the odd set; when it is legal.
-- `most` is the most that Y may have.
use Rattle.std.specs.Prelude.{List, ◌≡◌, ◌%◌, ◌*◌, ◌+◌, ◌<◌, ◌≤◌, ℕ, length}
use Rattle.std.specs.Int.Bits.{bit_xor}
use Rattle.circuit.specs.OddSet.{Member}
use Rattle.gf2.specs.Bit.{bit}
use Rattle.gf2.specs.Over.{sum_over, xor_all}
use Rattle.moves.specs.Sets.{Ascending, In}

-- z is a XOR b for some member a in Y and some member b not in Y
pub record Separates (marks : List ℕ) (z : ℕ) (Y : List ℕ) : Type 0 where
  pub a : ℕ
  pub b : ℕ
  pub a_in : In a Y
  pub b_member : Member marks b
  pub b_out : In b Y → ⊥
  pub z_is : z ≡ bit_xor a b

-- 1 where z_i·y_j·y_k + z_j·y_i·y_k + z_k·y_i·y_j is odd, else 0; a subscript is that wire's bit
abbrev pub triple : ℕ → ℕ → ℕ → ℕ → ℕ → ℕ
triple z i j k y = (bit z i * bit y j * bit y k + bit z j * bit y i * bit y k + bit z k * bit y i * bit y j) % 2

-- the XOR of all of Y is 0; and for each i < j < k an even number of y in Y have that sum odd
pub record Balanced (n z : ℕ) (Y : List ℕ) : Type 0 where
  pub zero_xor : xor_all Y ≡ 0
  pub triples : (i j k : ℕ) → i < j → j < k → k < n → sum_over (triple z i j k) Y % 2 ≡ 0

-- Y is a set of at most `most` members, and the move is legal
pub record Legal (most n : ℕ) (marks : List ℕ) (z : ℕ) (Y : List ℕ) : Type 0 where
  pub few : length Y ≤ most
  pub ordered : Ascending Y
  pub marked : (y : ℕ) → In y Y → Member marks y
  pub separates : Separates marks z Y
  pub balanced : Balanced n z Y

-- there is a legal move for these marks
pub record Movable (most n : ℕ) (marks : List ℕ) : Type 0 where
  pub z : ℕ
  pub Y : List ℕ
  pub legal : Legal most n marks z Y

-- no z and Y make a legal move for these marks
abbrev pub NoneLegal : ℕ → ℕ → List ℕ → Type 0
NoneLegal most n marks = (z : ℕ) (Y : List ℕ) → Legal most n marks z Y → ⊥

-- every legal move for these marks has a z of k or more
abbrev pub NoneBelow : ℕ → ℕ → List ℕ → ℕ → Type 0
NoneBelow most n marks k = (z : ℕ) (Y : List ℕ) → Legal most n marks z Y → k ≤ z
