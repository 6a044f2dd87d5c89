-- The superset sums of one table of weights less another tell nothing exactly where l, q and c are the same.
use mathlib.Core.Bool.{Bool}
use mathlib.Core.List.{List}
use mathlib.Core.Path.{ap, refl, ◌≡◌}
use Prim.Native.Nat.{◌%◌, ◌*◌, ◌+◌, ◌-◌, ◌/◌, ◌<◌, ◌^◌, suc, zero, ℕ, ◌≤◌}
use native.Mathlib.Omega.{arith}
use lib.Count.{ones}
use lib.ListN.{length}
use lib.Pow.{pow-lt}
use Rattle.circuit.specs.Sound.{SoundWeights, weight}
use Rattle.gf2.proofs.Answers.{decides_as}
use Rattle.gf2.proofs.Bit.{three_lt, two_lt}
use Rattle.gf2.proofs.Modular.{cong_by}
use Rattle.gf2.specs.Tests.{Decides}
use Rattle.phase.proofs.Lists.{Wide, wide}
use Rattle.phase.proofs.Sums.{C, L, Q}
use Rattle.phase.proofs.Wires.{is_one, is_three, is_two, ones_one, ones_three, ones_two}
use Rattle.phase.specs.Coefficients.{SameCoefficients, c, l, q}
use Rattle.sums.proofs.AtWires.{at_one, at_three, at_two}
use Rattle.sums.proofs.Difference.{sums_long}
use Rattle.sums.specs.Difference.{DifferenceSums}
use Rattle.compare.specs.Deciding.{NoneTells, modulus}

-- ---- x less y, modulo 8, is 0 modulo m exactly where x and y are the same modulo m

less_eight : (x y : ℕ) → (x + 7 * y) % 8 % 8 ≡ 0 → x % 8 ≡ y % 8
less_eight x y e = cong_by 8 y ((x + 7 * y) / 8) x y (omega arith)

less_four : (x y : ℕ) → (x + 7 * y) % 8 % 4 ≡ 0 → x % 4 ≡ y % 4
less_four x y e = cong_by 4 (2 * y) (2 * ((x + 7 * y) / 8) + (x + 7 * y) % 8 / 4) x y (omega arith)

less_two : (x y : ℕ) → (x + 7 * y) % 8 % 2 ≡ 0 → x % 2 ≡ y % 2
less_two x y e = cong_by 2 (4 * y) (4 * ((x + 7 * y) / 8) + (x + 7 * y) % 8 / 2) x y (omega arith)

eight_less : (x y : ℕ) → x % 8 ≡ y % 8 → (x + 7 * y) % 8 % 8 ≡ 0
eight_less x y e = omega (arith, cong_by 8 0 (x / 8 + 7 * (y / 8) + y % 8) (x + 7 * y) 0 (omega arith))

four_less : (x y : ℕ) → x % 4 ≡ y % 4 → (x + 7 * y) % 8 % 4 ≡ 0
four_less x y e = omega (arith, cong_by 4 0 (x / 4 + 7 * (y / 4) + 2 * (y % 4)) (x + 7 * y) 0 (omega arith))

two_less : (x y : ℕ) → x % 2 ≡ y % 2 → (x + 7 * y) % 8 % 2 ≡ 0
two_less x y e = omega (arith, cong_by 2 0 (x / 2 + 7 * (y / 2) + 4 * (y % 2)) (x + 7 * y) 0 (omega arith))

-- minus a number, modulo 4, tells the number
minus_tells : (a b : ℕ) → a < 4 → b < 4 → (4 - a) % 4 ≡ (4 - b) % 4 → a ≡ b
minus_tells zero zero ha hb e = refl
minus_tells zero (suc b) ha hb e = absurd (omega arith)
minus_tells (suc a) zero ha hb e = absurd (omega arith)
minus_tells (suc a) (suc b) ha hb e = omega arith

-- ---- s holds the sums

module _ (n : ℕ) (w v s : List ℕ) (ww : Wide n w) (wv : Wide n v) (sums : DifferenceSums n w v s) where
  long : length s ≡ 2 ^ n
  long = sums_long n w v s sums

  -- the sum at p, of so many wires, is 0 by its modulus
  at_wires : NoneTells s → (p k : ℕ) → p < 2 ^ n → ones p ≡ k → weight s p % modulus k ≡ 0
  at_wires none p k h e = rw e at (none p (omega (arith, long)))

  none_same : NoneTells s → SameCoefficients n w v
  unfolding l q c
  none_same none =
      record {
        same_l =
            λ i h. less_eight (L w i) (L v i)
            (rw (at_one n w v s ww wv sums i h) at (at_wires none (2 ^ i) 1 (pow-lt h) (ones_one i)));
        same_q =
            λ i j h g. ap (λ (t : ℕ). (4 - t) % 4)
            (less_four (Q w i j) (Q v i j)
            (rw (at_two n w v s ww wv sums i j h g) at (at_wires none (2 ^ i + 2 ^ j) 2 (two_lt n i j h g) (ones_two i j h))));
        same_c =
            λ i j k h g f. less_two (C w i j k) (C v i j k)
            (rw (at_three n w v s ww wv sums i j k h g f) at
            (at_wires none (2 ^ i + 2 ^ j + 2 ^ k) 3 (three_lt n i j k h g f) (ones_three i j k h g)));
      }

  same_none : SameCoefficients n w v → NoneTells s
  unfolding l q c
  same_none same p h = go (ones p) refl
    where
      inside : p < 2 ^ n
      inside = omega (arith, long)

      go : (k : ℕ) → ones p ≡ k → weight s p % modulus k ≡ 0
      go zero e = omega arith
      go (suc zero) e =
          let t = is_one n p inside e in
          rw (t.2, at_one n w v s ww wv sums t.0 t.1) (eight_less (L w t.0) (L v t.0) (same.same_l t.0 t.1))
      go (suc (suc zero)) e =
          let t = is_two n p inside e in
          let i = t.0 in
          let j = t.1 in
          rw (t.4, at_two n w v s ww wv sums i j t.2 t.3)
          (four_less (Q w i j) (Q v i j)
          (minus_tells (Q w i j % 4) (Q v i j % 4) (omega arith) (omega arith) (same.same_q i j t.2 t.3)))
      go (suc (suc (suc zero))) e =
          let t = is_three n p inside e in
          let i = t.0 in
          let j = t.1 in
          let k = t.2 in
          rw (t.6, at_three n w v s ww wv sums i j k t.3 t.4 t.5)
          (two_less (C w i j k) (C v i j k) (same.same_c i j k t.3 t.4 t.5))
      go (suc (suc (suc (suc k)))) e = omega arith

-- so what is decided of the sums is decided of the coefficients
pub decided_by_sums : {size n : ℕ} {w v s : List ℕ} {r : Bool} → 2 ^ n ≤ size → SoundWeights size n w → SoundWeights size n v
    → DifferenceSums n w v s → Decides r (NoneTells s) → Decides r (SameCoefficients n w v)
decided_by_sums {size} {n} {w} {v} {s} room sw sv sums d =
    let ww = wide size n w room sw in
    let wv = wide size n v room sv in
    decides_as (none_same n w v s ww wv sums) (same_none n w v s ww wv sums) d
