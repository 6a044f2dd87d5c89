-- The superset sums of w less u at one wire, at two and at three: the sums behind l, q and c of the one less those of the other.
use mathlib.Core.List.{List}
use mathlib.Core.Path.{ap, sym, ◌∙◌, ◌≡◌}
use Prim.Native.Nat.{◌%◌, ◌*◌, ◌+◌, ◌<◌, ◌^◌, ℕ}
use native.Mathlib.Omega.{arith}
use lib.Pow.{pow-lt}
use Rattle.circuit.specs.Sound.{weight}
use Rattle.gf2.proofs.Bit.{three_lt, two_lt}
use Rattle.gf2.proofs.Modular.{mul_mod_l}
use Rattle.gf2.proofs.Sum.{sum-add, sum-mod, sum-scale}
use Rattle.gf2.proofs.Superset.{superset-one, superset-three, superset-two}
use Rattle.gf2.specs.Bit.{bit}
use Rattle.gf2.specs.Sum.{sum}
use Rattle.gf2.specs.Superset.{superset}
use Rattle.gf2.specs.Table.{weighted_sum}
use Rattle.phase.proofs.Lists.{Wide, weighted_sum-wide}
use Rattle.phase.proofs.Sums.{C, L, Q}
use Rattle.sums.proofs.Difference.{difference_at, length-difference}
use Rattle.sums.specs.Difference.{DifferenceSums, difference}

module _ (n : ℕ) (w u s : List ℕ) (ww : Wide n w) (wu : Wide n u) (sums : DifferenceSums n w u s) where
  abbrev d : ℕ → ℕ
  d p = weight (difference (2 ^ n) w u) p

  difference_sum : (f : ℕ → ℕ) → sum (2 ^ n) (λ p. d p * f p) % 8 ≡ (weighted_sum w f + 7 * weighted_sum u f) % 8
  difference_sum f =
      sum-mod 8 (2 ^ n) (λ p. d p * f p) (λ p. weight w p * f p + 7 * (weight u p * f p))
      (λ p h. ap (λ (t : ℕ). t * f p % 8) (sym (difference_at (2 ^ n) w u p h)) ∙ mul_mod_l 8 (weight w p + 7 * weight u p) (f p)
      ∙ ap (λ (t : ℕ). t % 8) (omega arith))
      ∙ ap (λ (t : ℕ). t % 8)
      (omega (
        arith,
        weighted_sum-wide n w ww f,
        weighted_sum-wide n u wu f,
        sum-add (2 ^ n) (λ p. weight w p * f p) (λ p. 7 * (weight u p * f p)),
        sum-scale (2 ^ n) 7 (λ p. weight u p * f p),
      ))

  sum-at : (p : ℕ) → p < 2 ^ n → weight s p ≡ superset n d p % 8
  sum-at p h = sums.sums p (omega (arith, length-difference (2 ^ n) w u))

  pub at_one : (i : ℕ) → i < n → weight s (2 ^ i) ≡ (L w i + 7 * L u i) % 8
  at_one i h =
      sum-at (2 ^ i) (pow-lt h) ∙ ap (λ (t : ℕ). t % 8) (superset-one n d i h) ∙ difference_sum (λ p. bit p i)

  pub at_two : (i j : ℕ) → i < j → j < n → weight s (2 ^ i + 2 ^ j) ≡ (Q w i j + 7 * Q u i j) % 8
  at_two i j h g =
      sum-at (2 ^ i + 2 ^ j) (two_lt n i j h g) ∙ ap (λ (t : ℕ). t % 8) (superset-two n d i j h g)
      ∙ difference_sum (λ p. bit p i * bit p j)

  pub at_three : (i j k : ℕ) → i < j → j < k → k < n → weight s (2 ^ i + 2 ^ j + 2 ^ k) ≡ (C w i j k + 7 * C u i j k) % 8
  at_three i j k h g f =
      sum-at (2 ^ i + 2 ^ j + 2 ^ k) (three_lt n i j k h g f) ∙ ap (λ (t : ℕ). t % 8) (superset-three n d i j k h g f)
      ∙ difference_sum (λ p. bit p i * bit p j * bit p k)
