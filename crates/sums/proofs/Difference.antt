-- One table less another, modulo 8.
use mathlib.Core.List.{List}
use mathlib.Core.Path.{sym, ◌∙◌, ◌≡◌}
use Prim.Native.Nat.{◌%◌, ◌*◌, ◌+◌, ◌<◌, ◌^◌, ℕ}
use native.Mathlib.Omega.{arith}
use lib.ListN.{length}
use Rattle.circuit.specs.Sound.{weight}
use Rattle.gf2.proofs.Table.{get_d_tabulate, length-tabulate}
use Rattle.gf2.specs.Over.{Below}
use Rattle.sums.specs.Difference.{DifferenceSums, difference}

module _ (k : ℕ) (w u : List ℕ) where
  pub length-difference : length (difference k w u) ≡ k
  unfolding difference
  length-difference = length-tabulate k (λ p. (weight w p + 7 * weight u p) % 8)

  pub difference_at : (p : ℕ) → p < k → (weight w p + 7 * weight u p) % 8 ≡ weight (difference k w u) p
  unfolding difference
  difference_at p h = sym (get_d_tabulate k (λ p. (weight w p + 7 * weight u p) % 8) p h)

  difference_small : Below 8 (difference k w u)
  difference_small p h = omega (arith, difference_at p (omega (arith, length-difference)))

pub difference_fits : (k : ℕ) (w u d : List ℕ) → d ≡ difference k w u → (length d ≡ k) × Below 8 d
difference_fits k w u d e = rw e (length-difference k w u, difference_small k w u)

-- the sums are as many as the parities of n wires
pub sums_long : (n : ℕ) (w u s : List ℕ) → DifferenceSums n w u s → length s ≡ 2 ^ n
sums_long n w u s sums = sums.as_long ∙ length-difference (2 ^ n) w u
