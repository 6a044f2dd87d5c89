-- The even rest: its value on one wire and on two, and that it is even where the signatures are equal.
use mathlib.Core.List.{List}
use mathlib.Core.Logic.{inl, inr, ◌≢◌, ◌⊎◌}
use mathlib.Core.Path.{ap, refl, sym, ◌∙◌, ◌≡◌}
use Prim.Native.Nat.{◌%◌, ◌*◌, ◌+◌, ◌-◌, ◌/◌, ◌<◌, ◌^◌, suc, zero, ℕ}
use native.Mathlib.Decide.{dec_lt, ℕ_discrete}
use native.Mathlib.Nat.{add_comm, mul_comm}
use native.Mathlib.Omega.{arith}
use lib.Count.{ones, ones_in}
use Rattle.gf2.proofs.Modular.{cong_by}
use Rattle.gf2.proofs.Sum.{sum-ext, sum-mod, sum-zero}
use Rattle.gf2.proofs.Table.{weighted_sum-ext}
use Rattle.gf2.specs.Bit.{bit}
use Rattle.gf2.specs.Parity.{lowest}
use Rattle.gf2.specs.Sum.{sum}
use Rattle.phase.proofs.ByCoefficients.{minus4}
use Rattle.phase.proofs.Sums.{L, Q, SameSums}
use Rattle.phase.proofs.WireSums.{apart_other, apart_same, few_zero}
use Rattle.phase.proofs.Wires.{low_one, low_two, next_two, ones_one, ones_two}
use Rattle.phase.specs.Coefficients.{l, q}
use Rattle.phase.specs.NewWeights.{apart, by_wires, next, one_rest, pair_rest, rest}

-- the difference of q, by the plain sums x of w and y of u
quarter : (x y : ℕ) → ((4 - x % 4) % 4 + 3 * ((4 - y % 4) % 4)) % 4 ≡ (3 * x + y) % 4
quarter x y = rw (minus4 x, minus4 y) (cong_by 4 (3 * x / 4 + 3 * (3 * y / 4)) (2 * y) _ (3 * x + y) (omega arith))

module _ (w u : List ℕ) where
  pub pair_rest-is : (i j : ℕ) → pair_rest w u i j ≡ 3 * ((3 * Q w i j + Q u i j) % 4)
  unfolding pair_rest q
  pair_rest-is i j = ap (λ (t : ℕ). 3 * t) (quarter (Q w i j) (Q u i j))

  pub pair_rest-sym : (i j : ℕ) → pair_rest w u i j ≡ pair_rest w u j i
  pair_rest-sym i j = pair_rest-is i j ∙ rw (swap w i j, swap u i j) (sym (pair_rest-is j i))
    where
      swap : (v : List ℕ) (i j : ℕ) → Q v i j ≡ Q v j i
      swap v i j = weighted_sum-ext v (λ p. bit p i * bit p j) (λ p. bit p j * bit p i) (λ p. mul_comm (bit p i) (bit p j))

  module _ (n : ℕ) where
    pub rest_one : (i : ℕ) → i < n → rest n w u (2 ^ i) ≡ one_rest n w u i
    unfolding rest by_wires
    rest_one i h = rw (ones_one i, low_one n i h)

    pub rest_two : (i j : ℕ) → i < j → j < n → rest n w u (2 ^ i + 2 ^ j) ≡ pair_rest w u i j
    unfolding rest by_wires
    rest_two i j h g = rw (ones_two i j h, low_two n i j h (omega arith), next_two n i j h g)

    -- in either order
    pub rest_pair : (i j : ℕ) → j ≢ i → i < n → j < n → rest n w u (2 ^ i + 2 ^ j) ≡ pair_rest w u i j
    rest_pair i j ne hi hj = go (dec_lt i j)
      where
        go : Dec (i < j) → rest n w u (2 ^ i + 2 ^ j) ≡ pair_rest w u i j
        go (yes h) = rest_two i j h hj
        go (no h) = ap (λ (p : ℕ). rest n w u p) (add_comm (2 ^ i) (2 ^ j)) ∙ rest_two j i (omega arith) hi ∙ pair_rest-sym j i

    pub rest_others : (p : ℕ) → ones p ≢ 1 → ones p ≢ 2 → rest n w u p ≡ 0
    unfolding rest by_wires
    rest_others p a b = go (ones p) a b
      where
        go : (o : ℕ) → o ≢ 1 → o ≢ 2 → by_wires o (one_rest n w u (lowest n p)) (pair_rest w u (lowest n p) (next n p)) ≡ 0
        go zero a b = refl
        go (suc zero) a b = absurd (a refl)
        go (suc (suc zero)) a b = absurd (b refl)
        go (suc (suc (suc o))) a b = refl

    pub rest_zero : rest n w u 0 ≡ 0
    unfolding rest by_wires ones ones_in
    rest_zero = refl

    pub rest_many : (p : ℕ) → 2 < ones p → rest n w u p ≡ 0
    rest_many p h = rest_others p (omega arith) (omega arith)

    -- the rests of the pairs with i, summed
    pub pairs_rest : (i : ℕ) → i < n → sum n (λ j. apart i j * rest n w u (2 ^ i + 2 ^ j)) ≡ sum n (λ j. apart i j * pair_rest w u i j)
    pairs_rest i h =
        sum-ext n (λ j. apart i j * rest n w u (2 ^ i + 2 ^ j)) (λ j. apart i j * pair_rest w u i j) (λ j hj. go j hj (ℕ_discrete j i))
      where
        go : (j : ℕ) → j < n → Dec (j ≡ i) → apart i j * rest n w u (2 ^ i + 2 ^ j) ≡ apart i j * pair_rest w u i j
        go j hj (yes e) = rw (e, apart_same i) (omega arith)
        go j hj (no ne) = ap (λ (t : ℕ). apart i j * t) (rest_pair i j ne h hj)

pub one_rest-lt : (n : ℕ) (w u : List ℕ) (i : ℕ) → one_rest n w u i < 8
unfolding one_rest
one_rest-lt n w u i = omega arith

-- an even rest on two wires is 0 or 6
pub pair_rest-if_even : (w u : List ℕ) (i j : ℕ) → pair_rest w u i j % 2 ≡ 0 → (pair_rest w u i j ≡ 0) ⊎ (pair_rest w u i j ≡ 6)
unfolding pair_rest
pair_rest-if_even w u i j e = go ((q w i j + 3 * q u i j) % 4) (omega arith) e
  where
    go : (d : ℕ) → d < 4 → 3 * d % 2 ≡ 0 → (3 * d ≡ 0) ⊎ (3 * d ≡ 6)
    go zero h e = inl refl
    go (suc zero) h e = absurd (omega arith)
    go (suc (suc zero)) h e = inr refl
    go (suc (suc (suc zero))) h e = absurd (omega arith)
    go (suc (suc (suc (suc d)))) h e = absurd (omega arith)

-- ---- even, where the signatures are equal
module _ (n : ℕ) (w u : List ℕ) (same : SameSums n u w) where
  pair_rest-even : (i j : ℕ) → i < j → j < n → pair_rest w u i j % 2 ≡ 0
  pair_rest-even i j h g = ap (λ (t : ℕ). t % 2) (pair_rest-is w u i j) ∙ even (Q w i j) (Q u i j) (same.q i j h g)
    where
      even : (x y : ℕ) → y % 2 ≡ x % 2 → 3 * ((3 * x + y) % 4) % 2 ≡ 0
      even x y e =
          let t : ℕ = 3 * x + y in
          cong_by 2 (6 * (t / 4)) (9 * (x / 2) + 3 * (y / 2) + 6 * (x % 2)) (3 * (t % 4)) 0 (omega arith)

  pub pair_rest-cases : (i j : ℕ) → i < j → j < n → (pair_rest w u i j ≡ 0) ⊎ (pair_rest w u i j ≡ 6)
  pair_rest-cases i j h g = pair_rest-if_even w u i j (pair_rest-even i j h g)

  pairs_even : (i : ℕ) → i < n → sum n (λ j. apart i j * pair_rest w u i j) % 2 ≡ 0
  pairs_even i h =
      sum-mod 2 n (λ j. apart i j * pair_rest w u i j) (λ j. 0) (λ j hj. go j hj (ℕ_discrete j i) (dec_lt i j))
      ∙ ap (λ (t : ℕ). t % 2) (sum-zero n)
    where
      go : (j : ℕ) → j < n → Dec (j ≡ i) → Dec (i < j) → apart i j * pair_rest w u i j % 2 ≡ 0
      go j hj (yes e) d = rw (e, apart_same i) (omega arith)
      go j hj (no ne) (yes g) = rw (apart_other i j ne) (omega (arith, pair_rest-even i j g hj))
      go j hj (no ne) (no g) = rw (apart_other i j ne, pair_rest-sym w u i j) (omega (arith, pair_rest-even j i (omega arith) h))

  pub one_rest-even : (i : ℕ) → i < n → one_rest n w u i % 2 ≡ 0
  unfolding one_rest l
  one_rest-even i h = even (L w i) (L u i) (sum n (λ j. apart i j * pair_rest w u i j)) (same.l i h) (pairs_even i h)
    where
      even : (x y s : ℕ) → y % 2 ≡ x % 2 → s % 2 ≡ 0 → (x % 8 + 7 * (y % 8 + s)) % 8 % 2 ≡ 0
      even x y s e f =
          let t : ℕ = x % 8 + 7 * (y % 8 + s) in
          cong_by 2 (4 * (x / 8) + 28 * (y / 8) + 4 * (t / 8)) (x / 2 + 7 * (y / 2) + 4 * (x % 2) + 7 * (s / 2)) (t % 8) 0 (omega arith)

  pub rest_even : (p : ℕ) → p < 2 ^ n → rest n w u p % 2 ≡ 0
  rest_even =
      few_zero n (λ p. rest n w u p % 2) (λ p hp o. rw (rest_many w u n p o)) (rw (rest_zero w u n))
      (λ i h. rw (rest_one w u n i h) (one_rest-even i h))
      (λ i j h g. rw (rest_two w u n i j h g) (pair_rest-even i j h g))
