-- Superset sums in place, modulo 8: what each step has done to the numbers s, which are s' after it.
use Rattle.std.specs.Prelude.{List, ◌≡◌, ◌%◌, ◌*◌, ◌+◌, ◌<◌, ◌^◌, ℕ, ◌≤◌, length}
use Rattle.circuit.specs.Sound.{weight}
use Rattle.gf2.specs.Bit.{bit}
use Rattle.gf2.specs.Over.{Below}
use Rattle.gf2.specs.Superset.{superset}

-- numbers below 8, in whole blocks for wire i: the half of each without the wire, then the half with it
pub record InBlocks (i : ℕ) (s : List ℕ) : Type 0 where
  pub blocks : ℕ
  pub long : length s ≡ blocks * (2 * 2 ^ i)
  pub small : Below 8 s

-- to each place from `start` on and below `end` has come what stands h places on; all else is as it was
pub record Added (start end h : ℕ) (s s' : List ℕ) : Type 0 where
  pub as_long : length s' ≡ length s
  pub added : (p : ℕ) → start ≤ p → p < end → weight s' p ≡ (weight s p + weight s (p + h)) % 8
  pub under : (p : ℕ) → p < start → weight s' p ≡ weight s p
  pub onward : (p : ℕ) → end ≤ p → weight s' p ≡ weight s p

-- to each place below `end` without wire i has come what stands at the same place with it; all else is as it was
pub record WireAdded (i end : ℕ) (s s' : List ℕ) : Type 0 where
  pub as_long : length s' ≡ length s
  pub without : (p : ℕ) → p < end → bit p i ≡ 0 → weight s' p ≡ (weight s p + weight s (p + 2 ^ i)) % 8
  pub having : (p : ℕ) → bit p i ≡ 1 → weight s' p ≡ weight s p
  pub onward : (p : ℕ) → end ≤ p → weight s' p ≡ weight s p

-- the wires below k are done
pub record SumsTo (k : ℕ) (s s' : List ℕ) : Type 0 where
  pub as_long : length s' ≡ length s
  pub sums : (p : ℕ) → p < length s → weight s' p ≡ superset k (weight s) p % 8
