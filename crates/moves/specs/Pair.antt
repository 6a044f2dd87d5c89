-- The finder's question for one z and a wire t of it: the members whose columns are eliminated, their tags, and the set that a mask of
-- slots gives. It is a device of ours, and no part of document 01.
use Rattle.std.specs.Prelude.{List, ◌≡◌, ◌*◌, ◌^◌, suc, zero, ℕ, get_or, replicate}
use Rattle.std.specs.Int.Bits.{bit_xor}
use Rattle.circuit.specs.OddSet.{Member}
use Rattle.circuit.specs.Sound.{weight}
use Rattle.gf2.specs.Bit.{bit}
use Rattle.moves.specs.CarryOut.{flip, flip_if}

-- y is a member, and of two partners y and y XOR z that are both members it is the one without wire t
pub record Stands (marks : List ℕ) (z t y : ℕ) : Type 0 where
  pub member : Member marks y
  pub alone : bit y t ≡ 1 → Member marks (bit_xor y z) → ⊥

-- a tag of its own for each pair: 2^y where the partner of y is a member too, else 0
unfoldable pub pair_tag : List ℕ → ℕ → ℕ → ℕ
pair_tag marks z y = weight marks (bit_xor y z) * 2 ^ y

-- ---- from a mask of slots to a set, by its marks

-- the marks of the members of those slots below k that m names, each flipped, of `size` marks
unfoldable pub named : ℕ → List ℕ → ℕ → ℕ → List ℕ
named size member m zero = replicate size 0
named size member m (suc k) = flip_if (bit m k) (named size member m k) (get_or member k 0)

-- and that of a
abbrev pub named_with : ℕ → List ℕ → ℕ → ℕ → ℕ → List ℕ
named_with size member m N a = flip (named size member m N) a

-- y is in the set, and its partner is a member
pub record PairIn (marks : List ℕ) (z : ℕ) (set : List ℕ) (y : ℕ) : Type 0 where
  pub on : get_or set y 0 ≡ 1
  pub partner : Member marks (bit_xor y z)

-- where the xor x of the set is not 0, y gives place to its partner
unfoldable pub mended : ℕ → ℕ → ℕ → List ℕ → List ℕ
mended zero z y set = set
mended (suc x) z y set = flip (flip set y) (bit_xor y z)
