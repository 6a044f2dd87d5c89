-- The superset sums of weights less marks give the rests.
use mathlib.Core.List.{List}
use mathlib.Core.Path.{ap, sym, ◌∙◌, ◌≡◌}
use Prim.Native.Nat.{◌%◌, ◌*◌, ◌+◌, ◌/◌, ◌<◌, ◌^◌, ℕ}
use native.Mathlib.Decide.{dec_lt, ℕ_discrete}
use native.Mathlib.Nat.{add_comm}
use native.Mathlib.Omega.{arith}
use lib.Pow.{pow-lt}
use Rattle.circuit.specs.Sound.{weight}
use Rattle.gf2.proofs.Modular.{cong_by}
use Rattle.gf2.proofs.Sum.{sum-ext}
use Rattle.gf2.specs.Sum.{sum}
use Rattle.phase.proofs.Lists.{Wide}
use Rattle.phase.proofs.Rest.{pair_rest-is, pair_rest-sym}
use Rattle.phase.proofs.Sums.{L, Q}
use Rattle.phase.proofs.WireSums.{apart_other, apart_same}
use Rattle.phase.specs.Coefficients.{l}
use Rattle.phase.specs.NewWeights.{apart, one_rest, pair_rest}
use Rattle.sums.proofs.AtWires.{at_one, at_two}
use Rattle.sums.specs.Difference.{DifferenceSums}
use Rattle.rests.specs.Rests.{one_by, pair_by}

-- x, y: the sums of w and of u; s: the rests of the pairs
one_less : (x y s : ℕ) → ((x + 7 * y) % 8 + 7 * s) % 8 ≡ (x % 8 + 7 * (y % 8 + s)) % 8
one_less x y s = cong_by 8 ((x + 7 * y) / 8) (x / 8 + 7 * (y / 8)) ((x + 7 * y) % 8 + 7 * s) (x % 8 + 7 * (y % 8 + s)) (omega arith)

pair_less : (x y : ℕ) → 3 * ((x + 7 * y) % 8) % 4 ≡ (3 * x + y) % 4
pair_less x y = cong_by 4 (6 * ((x + 7 * y) / 8)) (5 * y) (3 * ((x + 7 * y) % 8)) (3 * x + y) (omega arith)

-- s holds the sums of the weights less the marks
module _ (n : ℕ) (w u s : List ℕ) (ww : Wide n w) (wu : Wide n u) (sums : DifferenceSums n w u s) where
  pub pair_by_sums : (i j : ℕ) → i < j → j < n → pair_by (weight s (2 ^ i + 2 ^ j)) ≡ pair_rest w u i j
  pair_by_sums i j h g =
      ap (λ (t : ℕ). 3 * t) (rw (at_two n w u s ww wu sums i j h g) (pair_less (Q w i j) (Q u i j))) ∙ sym (pair_rest-is w u i j)

  -- in either order
  with_other : (i j : ℕ) → i < n → j < n → Dec (j ≡ i) → Dec (i < j)
      → apart (2 ^ i) (2 ^ j) * pair_by (weight s (2 ^ i + 2 ^ j)) ≡ apart i j * pair_rest w u i j
  with_other i j hi hj (yes e) d = rw (e, apart_same i, apart_same (2 ^ i)) (omega arith)
  with_other i j hi hj (no ne) (yes h) =
      rw (apart_other i j ne, apart_other (2 ^ i) (2 ^ j) (λ e. omega (arith, pow-lt h)), pair_by_sums i j h hj)
  with_other i j hi hj (no ne) (no h) =
      let g : j < i = omega arith in
      rw (
        apart_other i j ne,
        apart_other (2 ^ i) (2 ^ j) (λ e. omega (arith, pow-lt g)),
        add_comm (2 ^ i) (2 ^ j),
        pair_by_sums j i g hi,
        pair_rest-sym w u j i,
      )

  pub one_by_sums : (i : ℕ) → i < n → one_by n s (2 ^ i) ≡ one_rest n w u i
  unfolding one_rest l
  one_by_sums i h = rw (at_one n w u s ww wu sums i h, pairs) (one_less (L w i) (L u i) (sum n (λ j. apart i j * pair_rest w u i j)))
    where
      pairs : sum n (λ j. apart (2 ^ i) (2 ^ j) * pair_by (weight s (2 ^ i + 2 ^ j))) ≡ sum n (λ j. apart i j * pair_rest w u i j)
      pairs =
          sum-ext n (λ j. apart (2 ^ i) (2 ^ j) * pair_by (weight s (2 ^ i + 2 ^ j))) (λ j. apart i j * pair_rest w u i j)
          (λ j hj. with_other i j h hj (ℕ_discrete j i) (dec_lt i j))
