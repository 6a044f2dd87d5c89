-- The one sum, parity by parity, and l, q and c by it: a bit times itself is the bit.
use mathlib.Core.List.{List}
use mathlib.Core.Logic.{◌≢◌}
use mathlib.Core.Path.{ap, refl, ◌∙◌, ◌≡◌}
use Prim.Native.Nat.{◌%◌, ◌*◌, ◌+◌, ◌-◌, ◌/◌, ◌<◌, ◌^◌, suc, zero, ℕ, ◌≤◌}
use native.Mathlib.Numerals.{add-one}
use native.Mathlib.Omega.{arith}
use lib.IntN.{◌+ℤ◌, ◌-ℤ◌, nat_abs, pos, ℤ}
use lib.ListN.{get_or, length}
use mir.Syntax.{w32}
use mir.Val.{of_z, to_z}
use Rattle.std.proofs.lemmas.Int.{int_rem_euclid_is, ints}
use Rattle.std.specs.Int.{int_rem_euclid}
use Rattle.circuit.specs.Limits.{most_byte, parities}
use Rattle.gf2.proofs.Bit.{bit-lt, mul_lt}
use Rattle.gf2.proofs.Sum.{sum-suc}
use Rattle.gf2.proofs.Table.{weighted_sum-ext}
use Rattle.gf2.specs.Bit.{bit}
use Rattle.gf2.specs.Sum.{sum}
use Rattle.gf2.specs.Table.{weighted_sum}
use Rattle.phase.specs.Coefficients.{c, l, q}
use Rattle.weights.specs.Sums.{sum_with}

-- ---- the sum so far

-- the sum over the first m parities
abbrev pub so_far : List ℕ → ℕ → ℕ → ℕ → ℕ → ℕ
so_far w i j k m = sum m (λ p. get_or w p 0 * (bit p i * bit p j * bit p k))

module _ (w : List ℕ) (i j k : ℕ) where
  pub so_far_none : so_far w i j k 0 ≡ 0
  unfolding sum
  so_far_none = refl

  pub so_far_next : (p : ℕ) → so_far w i j k (p + 1) ≡ so_far w i j k p + get_or w p 0 * (bit p i * bit p j * bit p k)
  so_far_next p = rw (add-one p) (sum-suc p (λ p. get_or w p 0 * (bit p i * bit p j * bit p k)))

  pub so_far_all : so_far w i j k (length w) ≡ sum_with w i j k
  unfolding weighted_sum
  so_far_all = refl

-- what one parity adds is no more than its weight
pub share_le : (x p i j k : ℕ) → x * (bit p i * bit p j * bit p k) ≤ x
share_le x p i j k =
    go (bit p i * bit p j * bit p k)
    (mul_lt (bit p i * bit p j) (bit p k) (mul_lt (bit p i) (bit p j) (bit-lt p i) (bit-lt p j)) (bit-lt p k))
  where
    go : (b : ℕ) → b < 2 → x * b ≤ x
    go zero h = omega arith
    go (suc zero) h = omega arith
    go (suc (suc b)) h = absurd (omega arith)

-- what one parity adds, by its bits
module _ (x p i j k : ℕ) where
  pub share_no_i : p / 2 ^ i % 2 ≢ 1 → pos 0 ≡ pos (x * (bit p i * bit p j * bit p k))
  unfolding bit
  share_no_i ne =
      let e : p / 2 ^ i % 2 ≡ 0 = omega arith in
      rw e (ap pos (omega arith))

  pub share_no_j : p / 2 ^ j % 2 ≢ 1 → pos 0 ≡ pos (x * (bit p i * bit p j * bit p k))
  unfolding bit
  share_no_j ne =
      let e : p / 2 ^ j % 2 ≡ 0 = omega arith in
      rw e (ap pos (omega arith))

  pub share_no_k : p / 2 ^ k % 2 ≢ 1 → pos 0 ≡ pos (x * (bit p i * bit p j * bit p k))
  unfolding bit
  share_no_k ne =
      let e : p / 2 ^ k % 2 ≡ 0 = omega arith in
      rw e (ap pos (omega arith))

  pub share_whole : p / 2 ^ i % 2 ≡ 1 → p / 2 ^ j % 2 ≡ 1 → p / 2 ^ k % 2 ≡ 1 → pos x ≡ pos (x * (bit p i * bit p j * bit p k))
  unfolding bit
  share_whole f g h = rw (f, g, h) (ap pos (omega arith))

-- ---- l, q and c

cube : (b : ℕ) → b < 2 → b * b * b ≡ b
cube zero h = refl
cube (suc zero) h = refl
cube (suc (suc b)) h = absurd (omega arith)

square : (a b : ℕ) → b < 2 → a * b * b ≡ a * b
square a zero h = omega arith
square a (suc zero) h = omega arith
square a (suc (suc b)) h = absurd (omega arith)

module _ (w : List ℕ) where
  pub l_by_sum : (i : ℕ) → sum_with w i i i % 8 ≡ l w i
  unfolding l
  l_by_sum i =
      ap (λ (s : ℕ). s % 8) (weighted_sum-ext w (λ p. bit p i * bit p i * bit p i) (λ p. bit p i) (λ p. cube (bit p i) (bit-lt p i)))

  pub q_by_sum : (i j : ℕ) → (4 - sum_with w i j j % 4) % 4 ≡ q w i j
  unfolding q
  q_by_sum i j =
      ap (λ (s : ℕ). (4 - s % 4) % 4)
      (weighted_sum-ext w (λ p. bit p i * bit p j * bit p j) (λ p. bit p i * bit p j) (λ p. square (bit p i) (bit p j) (bit-lt p j)))

  pub c_by_sum : (i j k : ℕ) → sum_with w i j k % 2 ≡ c w i j k
  unfolding c
  c_by_sum i j k = refl

  -- as they are read of the sum s, whose bits the machine passes on, in the remainder t: exact at zero and at multiples of the modulus
  pub l_read : (i : ℕ) (s t : ℤ) → (s ≡ pos (sum_with w i i i)) × (sum_with w i i i ≤ most_byte * parities)
      → t ≡ int_rem_euclid (to_z w32 (of_z w32 s)) (pos 8)
      → (nat_abs (to_z w32 (of_z w32 t)) ≡ l w i) × (nat_abs (to_z w32 (of_z w32 t)) < 8)
  l_read i s t e f =
      let x : ℕ = sum_with w i i i in
      let same : to_z w32 (of_z w32 s) ≡ pos x = omega (arith, ints, e.0, e.1) in
      let rest : t ≡ pos (x % 8) = rw same at f in
      let back : to_z w32 (of_z w32 t) ≡ pos (x % 8) = omega (arith, ints, rest) in
      (ap nat_abs back ∙ l_by_sum i, rw back (omega arith))

  pub q_read : (i j : ℕ) (s t : ℤ) → (s ≡ pos (sum_with w i j j)) × (sum_with w i j j ≤ most_byte * parities)
      → t ≡ int_rem_euclid (to_z w32 (of_z w32 (pos 0 -ℤ to_z w32 (of_z w32 s)))) (pos 4)
      → (nat_abs (to_z w32 (of_z w32 t)) ≡ q w i j) × (nat_abs (to_z w32 (of_z w32 t)) < 4)
  q_read i j s t e f =
      let x : ℕ = sum_with w i j j in
      let minus : to_z w32 (of_z w32 (pos 0 -ℤ to_z w32 (of_z w32 s))) +ℤ pos (x * 4) ≡ pos (3 * x) = omega (arith, ints, e.0, e.1) in
      let rest : t ≡ pos (3 * x % 4) = f ∙ int_rem_euclid_is _ _ 4 x (3 * x) (omega arith) refl minus in
      let back : to_z w32 (of_z w32 t) ≡ pos (3 * x % 4) = omega (arith, ints, rest) in
      let quarter : 3 * x % 4 ≡ (4 - x % 4) % 4 = omega arith in
      (ap nat_abs back ∙ quarter ∙ q_by_sum i j, rw back (omega arith))

  pub c_read : (i j k : ℕ) (s t : ℤ) → (s ≡ pos (sum_with w i j k)) × (sum_with w i j k ≤ most_byte * parities)
      → t ≡ int_rem_euclid (to_z w32 (of_z w32 s)) (pos 2) → nat_abs (to_z w32 (of_z w32 t)) ≡ c w i j k
  c_read i j k s t e f =
      let x : ℕ = sum_with w i j k in
      let same : to_z w32 (of_z w32 s) ≡ pos x = omega (arith, ints, e.0, e.1) in
      let rest : t ≡ pos (x % 2) = rw same at f in
      let back : to_z w32 (of_z w32 t) ≡ pos (x % 2) = omega (arith, ints, rest) in
      ap nat_abs back ∙ c_by_sum i j k
