-- Sums over all parities of a function that is 0 on those of more than two wires.
use mathlib.Core.Logic.{◌≢◌}
use mathlib.Core.Path.{ap, refl, sym, ◌∙◌, ◌≡◌}
use Prim.Native.Nat.{◌*◌, ◌+◌, ◌<◌, ◌^◌, suc, zero, ℕ, ◌≤◌}
use native.Mathlib.Decide.{ℕ_discrete}
use native.Mathlib.Nat.{add_comm, add-zero}
use native.Mathlib.Omega.{arith}
use lib.Count.{ones}
use lib.Pow.{pow_pos}
use Rattle.gf2.proofs.Bit.{bit-of_zero, bit-pow_other, bit-pow_same}
use Rattle.gf2.proofs.Sum.{delta-other, delta-same, sum-double, sum-ext, sum-single, sum-term, sum-zero}
use Rattle.gf2.specs.Bit.{bit}
use Rattle.gf2.specs.Sum.{sum}
use Rattle.phase.proofs.Wires.{bit-two_high, bit-two_low, bit-two_other, ones_none, ones_top}
use Rattle.phase.specs.NewWeights.{apart}

low_half : (n p : ℕ) → p < 2 ^ n → p < 2 ^ suc n
low_half n p h = omega arith

high_half : (n p : ℕ) → p < 2 ^ n → 2 ^ n + p < 2 ^ suc n
high_half n p h = omega arith

sum-none : (n : ℕ) (f : ℕ → ℕ) → ((p : ℕ) → p < 2 ^ n → 0 < ones p → f p ≡ 0) → sum (2 ^ n) f ≡ f 0
sum-none n f h = sum-single (2 ^ n) 0 f (pow_pos n) (λ p hp ne. h p hp (some p hp ne (ones p) refl))
  where
    some : (p : ℕ) → p < 2 ^ n → p ≢ 0 → (o : ℕ) → ones p ≡ o → 0 < ones p
    some p hp ne zero e = absurd (ne (ones_none n p hp e))
    some p hp ne (suc o) e = omega arith

sum_one : (n : ℕ) (f : ℕ → ℕ) → ((p : ℕ) → p < 2 ^ n → 1 < ones p → f p ≡ 0) → sum (2 ^ n) f ≡ f 0 + sum n (λ i. f (2 ^ i))
unfolding sum
sum_one zero f h = omega arith
sum_one (suc n) f h =
    omega (
      arith,
      sum-double n f,
      sum_one n f (λ p hp o. h p (low_half n p hp) o),
      sum-none n (λ p. f (2 ^ n + p)) (λ p hp o. h (2 ^ n + p) (high_half n p hp) (omega (arith, ones_top n p hp))),
      ap f (add-zero (2 ^ n)),
    )

pub sum-two : (n : ℕ) (f : ℕ → ℕ) → ((p : ℕ) → p < 2 ^ n → 2 < ones p → f p ≡ 0)
    → sum (2 ^ n) f ≡ f 0 + sum n (λ i. f (2 ^ i)) + sum n (λ j. sum j (λ i. f (2 ^ i + 2 ^ j)))
unfolding sum
sum-two zero f h = omega arith
sum-two (suc n) f h =
    omega (
      arith,
      sum-double n f,
      sum-two n f (λ p hp o. h p (low_half n p hp) o),
      sum_one n (λ p. f (2 ^ n + p)) (λ p hp o. h (2 ^ n + p) (high_half n p hp) (omega (arith, ones_top n p hp))),
      ap f (add-zero (2 ^ n)),
      sum-ext n (λ i. f (2 ^ n + 2 ^ i)) (λ i. f (2 ^ i + 2 ^ n)) (λ i hi. ap f (add_comm (2 ^ n) (2 ^ i))),
    )

-- such a function is 0 everywhere if it is 0 on 0, on each wire and on each pair
pub few_zero : (n : ℕ) (f : ℕ → ℕ) → ((p : ℕ) → p < 2 ^ n → 2 < ones p → f p ≡ 0)
    → f 0 ≡ 0 → ((i : ℕ) → i < n → f (2 ^ i) ≡ 0) → ((i j : ℕ) → i < j → j < n → f (2 ^ i + 2 ^ j) ≡ 0)
    → (p : ℕ) → p < 2 ^ n → f p ≡ 0
few_zero n f h z one two p hp =
    omega (
      arith,
      sum-term (2 ^ n) p f hp,
      sum-two n f h,
      sum-ext n (λ i. f (2 ^ i)) (λ i. 0) one,
      sum-ext n (λ j. sum j (λ i. f (2 ^ i + 2 ^ j))) (λ j. 0)
          (λ j hj. sum-ext j (λ i. f (2 ^ i + 2 ^ j)) (λ i. 0) (λ i hi. two i j hi hj) ∙ sum-zero j),
      sum-zero n,
    )

pub apart_same : (a : ℕ) → apart a a ≡ 0
apart_same a = rw (delta-same a)

pub apart_other : (a j : ℕ) → j ≢ a → apart a j ≡ 1
apart_other a j ne = rw (delta-other a j ne)

module _ (r : ℕ → ℕ) (a : ℕ) where
  pairs_none : (n : ℕ) → n ≤ a → sum n (λ j. sum j (λ i. r (2 ^ i + 2 ^ j) * bit (2 ^ i + 2 ^ j) a)) ≡ 0
  pairs_none n h =
      sum-ext n (λ j. sum j (λ i. r (2 ^ i + 2 ^ j) * bit (2 ^ i + 2 ^ j) a)) (λ j. 0)
      (λ j hj. sum-ext j (λ i. r (2 ^ i + 2 ^ j) * bit (2 ^ i + 2 ^ j) a) (λ i. 0)
      (λ i hi. rw (bit-two_other i j a hi (omega arith) (omega arith)) (omega arith)) ∙ sum-zero j)
      ∙ sum-zero n

  pairs_with : (n : ℕ) → a < n
      → sum n (λ j. sum j (λ i. r (2 ^ i + 2 ^ j) * bit (2 ^ i + 2 ^ j) a)) ≡ sum n (λ j. apart a j * r (2 ^ a + 2 ^ j))
  unfolding sum
  pairs_with zero h = absurd (omega arith)
  pairs_with (suc n) h = go (ℕ_discrete n a) (λ g. pairs_with n g)
    where
      F : ℕ → ℕ
      F j = sum j (λ i. r (2 ^ i + 2 ^ j) * bit (2 ^ i + 2 ^ j) a)

      G : ℕ → ℕ
      G j = apart a j * r (2 ^ a + 2 ^ j)

      zero_times : (x y : ℕ) → x ≡ 0 → x * y ≡ 0
      zero_times x y e = rw e (omega arith)

      term : (i : ℕ) → i < a → r (2 ^ i + 2 ^ a) * bit (2 ^ i + 2 ^ a) a ≡ apart a i * r (2 ^ a + 2 ^ i)
      term i hi = rw (bit-two_high i a hi, apart_other a i (omega arith), add_comm (2 ^ i) (2 ^ a)) (omega arith)

      go : Dec (n ≡ a) → (a < n → sum n F ≡ sum n G) → sum n F + F n ≡ sum n G + G n
      go (yes e) ih =
          rw e (omega (
            arith,
            pairs_none a (omega arith),
            sum-ext a (λ i. r (2 ^ i + 2 ^ a) * bit (2 ^ i + 2 ^ a) a) G term,
            zero_times (apart a a) (r (2 ^ a + 2 ^ a)) (apart_same a),
          ))
      go (no ne) ih =
          let g : a < n = omega arith in
          let top : r (2 ^ a + 2 ^ n) * bit (2 ^ a + 2 ^ n) a ≡ apart a n * r (2 ^ a + 2 ^ n) =
          rw (bit-two_low a n g, apart_other a n ne) (omega arith) in
          omega (
            arith,
            ih g,
            top,
            sum-single n a (λ i. r (2 ^ i + 2 ^ n) * bit (2 ^ i + 2 ^ n) a) g
                (λ i hi n'. rw (bit-two_other i n a hi (λ e. n' (sym e)) (λ e. ne (sym e))) (omega arith)),
          )

-- r is 0 on three wires and more
module _ (n : ℕ) (r : ℕ → ℕ) (few : (p : ℕ) → p < 2 ^ n → 2 < ones p → r p ≡ 0) where
  weighed : (f : ℕ → ℕ) → f 0 ≡ 0
      → sum (2 ^ n) (λ p. r p * f p) ≡ sum n (λ i. r (2 ^ i) * f (2 ^ i)) + sum n (λ j. sum j (λ i. r (2 ^ i + 2 ^ j) * f (2 ^ i + 2 ^ j)))
  weighed f z = omega (arith, sum-two n (λ p. r p * f p) (λ p hp o. rw (few p hp o) (omega arith)), none)
    where
      none : r 0 * f 0 ≡ 0
      none = rw z (omega arith)

  pub sum-with_one : (a : ℕ) → a < n → sum (2 ^ n) (λ p. r p * bit p a) ≡ r (2 ^ a) + sum n (λ j. apart a j * r (2 ^ a + 2 ^ j))
  sum-with_one a h =
      omega (
        arith,
        weighed (λ p. bit p a) (bit-of_zero a),
        sum-single n a (λ i. r (2 ^ i) * bit (2 ^ i) a) h (λ i hi ne. rw (bit-pow_other i a ne) (omega arith)),
        self,
        pairs_with r a n h,
      )
    where
      self : r (2 ^ a) * bit (2 ^ a) a ≡ r (2 ^ a)
      self = rw (bit-pow_same a) (omega arith)

  pub sum-with_two : (a b : ℕ) → a < b → b < n → sum (2 ^ n) (λ p. r p * (bit p a * bit p b)) ≡ r (2 ^ a + 2 ^ b)
  sum-with_two a b h hb =
      omega (
        arith,
        weighed f (rw (bit-of_zero a) (omega arith)),
        sum-ext n (λ i. r (2 ^ i) * f (2 ^ i)) (λ i. 0) (λ i hi. alone i (ℕ_discrete i a)),
        sum-zero n,
        sum-single n b (λ j. sum j (λ i. r (2 ^ i + 2 ^ j) * f (2 ^ i + 2 ^ j))) hb
            (λ j hj ne. sum-ext j (λ i. r (2 ^ i + 2 ^ j) * f (2 ^ i + 2 ^ j)) (λ i. 0)
            (λ i hi. by (r (2 ^ i + 2 ^ j)) (miss i j hi (λ e. ne e.1) (ℕ_discrete a i) (ℕ_discrete a j))) ∙ sum-zero j),
        sum-single b a (λ i. r (2 ^ i + 2 ^ b) * f (2 ^ i + 2 ^ b)) h
            (λ i hi ne. by (r (2 ^ i + 2 ^ b)) (miss i b hi (λ e. ne e.0) (ℕ_discrete a i) (ℕ_discrete a b))),
        self,
      )
    where
      f : ℕ → ℕ
      f p = bit p a * bit p b

      by : (x : ℕ) {y : ℕ} → y ≡ 0 → x * y ≡ 0
      by x e = rw e (omega arith)

      left : (p : ℕ) → bit p a ≡ 0 → f p ≡ 0
      left p e = rw e (omega arith)

      right : (p : ℕ) → bit p b ≡ 0 → f p ≡ 0
      right p e = rw e (omega arith)

      alone : (i : ℕ) → Dec (i ≡ a) → r (2 ^ i) * f (2 ^ i) ≡ 0
      alone i (yes e) = by (r (2 ^ i)) (right (2 ^ i) (bit-pow_other i b (omega arith)))
      alone i (no ne) = by (r (2 ^ i)) (left (2 ^ i) (bit-pow_other i a ne))

      -- another pair lacks a or b
      miss : (i j : ℕ) → i < j → ((i ≡ a) × (j ≡ b) → ⊥) → Dec (a ≡ i) → Dec (a ≡ j) → f (2 ^ i + 2 ^ j) ≡ 0
      miss i j g other (yes e) d = right (2 ^ i + 2 ^ j) (bit-two_other i j b g (omega arith) (λ k. other (sym e, sym k)))
      miss i j g other (no ne) (yes e) = right (2 ^ i + 2 ^ j) (bit-two_other i j b g (omega arith) (omega arith))
      miss i j g other (no ne) (no ne') = left (2 ^ i + 2 ^ j) (bit-two_other i j a g ne ne')

      self : r (2 ^ a + 2 ^ b) * f (2 ^ a + 2 ^ b) ≡ r (2 ^ a + 2 ^ b)
      self = rw (bit-two_low a b h, bit-two_high a b h) (omega arith)

  pub sum-with_three : (a b d : ℕ) → a < b → b < d → sum (2 ^ n) (λ p. r p * (bit p a * bit p b * bit p d)) ≡ 0
  sum-with_three a b d h g =
      omega (
        arith,
        weighed f (rw (bit-of_zero a) (omega arith)),
        sum-ext n (λ i. r (2 ^ i) * f (2 ^ i)) (λ i. 0) (λ i hi. by (r (2 ^ i)) (alone i (ℕ_discrete i a))),
        sum-ext n (λ j. sum j (λ i. r (2 ^ i + 2 ^ j) * f (2 ^ i + 2 ^ j))) (λ j. 0)
            (λ j hj. sum-ext j (λ i. r (2 ^ i + 2 ^ j) * f (2 ^ i + 2 ^ j)) (λ i. 0)
            (λ i hi. by (r (2 ^ i + 2 ^ j)) (miss i j hi (ℕ_discrete a i) (ℕ_discrete a j) (ℕ_discrete b j))) ∙ sum-zero j),
        sum-zero n,
      )
    where
      f : ℕ → ℕ
      f p = bit p a * bit p b * bit p d

      by : (x : ℕ) {y : ℕ} → y ≡ 0 → x * y ≡ 0
      by x e = rw e (omega arith)

      no_a : (p : ℕ) → bit p a ≡ 0 → f p ≡ 0
      no_a p e = rw e (omega arith)

      no_b : (p : ℕ) → bit p b ≡ 0 → f p ≡ 0
      no_b p e = rw e (omega arith)

      no_d : (p : ℕ) → bit p d ≡ 0 → f p ≡ 0
      no_d p e = rw e (omega arith)

      alone : (i : ℕ) → Dec (i ≡ a) → f (2 ^ i) ≡ 0
      alone i (yes e) = no_b (2 ^ i) (bit-pow_other i b (omega arith))
      alone i (no ne) = no_a (2 ^ i) (bit-pow_other i a ne)

      -- i and j cannot be all three
      miss : (i j : ℕ) → i < j → Dec (a ≡ i) → Dec (a ≡ j) → Dec (b ≡ j) → f (2 ^ i + 2 ^ j) ≡ 0
      miss i j l (yes e) d₂ (yes e') = no_d (2 ^ i + 2 ^ j) (bit-two_other i j d l (omega arith) (omega arith))
      miss i j l (yes e) d₂ (no ne) = no_b (2 ^ i + 2 ^ j) (bit-two_other i j b l (omega arith) ne)
      miss i j l (no ne) (yes e) d₃ = no_b (2 ^ i + 2 ^ j) (bit-two_other i j b l (omega arith) (omega arith))
      miss i j l (no ne) (no ne') d₃ = no_a (2 ^ i + 2 ^ j) (bit-two_other i j a l ne ne')
