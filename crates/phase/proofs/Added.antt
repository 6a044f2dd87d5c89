-- What adding a rest r, modulo 8, does to the sums behind l, q and c, where r is 0 on three wires and more. v is u with r added.
use mathlib.Core.List.{List}
use mathlib.Core.Path.{ap, ◌∙◌, ◌≡◌}
use Prim.Native.Nat.{◌%◌, ◌*◌, ◌+◌, ◌<◌, ◌^◌, ℕ}
use lib.Count.{ones}
use Rattle.circuit.specs.Sound.{weight}
use Rattle.gf2.specs.Bit.{bit}
use Rattle.gf2.specs.Sum.{sum}
use Rattle.phase.proofs.Lists.{Wide, weighted_sum-added}
use Rattle.phase.proofs.Sums.{C, L, Q}
use Rattle.phase.proofs.WireSums.{sum-with_one, sum-with_three, sum-with_two}
use Rattle.phase.specs.NewWeights.{apart}

module _ (n : ℕ) (v u : List ℕ) (r : ℕ → ℕ) (wv : Wide n v) (wu : Wide n u)
    (is : (p : ℕ) → p < 2 ^ n → weight v p ≡ (weight u p + r p) % 8)
    (few : (p : ℕ) → p < 2 ^ n → 2 < ones p → r p ≡ 0) where
  pub added_l : (i : ℕ) → i < n → L v i % 8 ≡ (L u i + (r (2 ^ i) + sum n (λ j. apart i j * r (2 ^ i + 2 ^ j)))) % 8
  added_l i h = weighted_sum-added n v u r wv wu is (λ p. bit p i) ∙ ap (λ (t : ℕ). (L u i + t) % 8) (sum-with_one n r few i h)

  pub added_q : (i j : ℕ) → i < j → j < n → Q v i j % 8 ≡ (Q u i j + r (2 ^ i + 2 ^ j)) % 8
  added_q i j h g =
      weighted_sum-added n v u r wv wu is (λ p. bit p i * bit p j) ∙ ap (λ (t : ℕ). (Q u i j + t) % 8) (sum-with_two n r few i j h g)

  pub added_c : (i j k : ℕ) → i < j → j < k → C v i j k % 8 ≡ (C u i j k + 0) % 8
  added_c i j k h g =
      weighted_sum-added n v u r wv wu is (λ p. bit p i * bit p j * bit p k)
      ∙ ap (λ (t : ℕ). (C u i j k + t) % 8) (sum-with_three n r few i j k h g)
