-- Uniqueness: sound weights of the shape "marks and an even rest" that have the phases of w are the new weights.
use mathlib.Core.List.{List}
use mathlib.Core.Logic.{inl, inr, ◌≢◌, ◌⊎◌}
use mathlib.Core.Path.{ap, sym, ◌∙◌, ◌≡◌}
use Prim.Native.Nat.{◌%◌, ◌*◌, ◌+◌, ◌-◌, ◌/◌, ◌<◌, ◌^◌, ℕ, ◌≤◌}
use native.Mathlib.Decide.{dec_lt, ℕ_discrete}
use native.Mathlib.Nat.{add_comm, mod-eq_of_lt}
use native.Mathlib.Omega.{arith}
use lib.Count.{ones, ones_in}
use lib.Pow.{pow-lt}
use Rattle.circuit.specs.Sound.{SoundWeights, weight}
use Rattle.gf2.proofs.Bit.{two_lt}
use Rattle.gf2.proofs.Modular.{cong_by}
use Rattle.gf2.proofs.Sum.{sum-ext}
use Rattle.gf2.specs.Sum.{sum}
use Rattle.phase.proofs.Added.{added_l, added_q}
use Rattle.phase.proofs.Converse.{back_l, back_q, same_at_three}
use Rattle.phase.proofs.Lists.{Wide, same_list, wide}
use Rattle.phase.proofs.NewWeights.{new_high, new_low, new_sound}
use Rattle.phase.proofs.Rest.{pair_rest-is, pairs_rest, rest_many, rest_one, rest_two, rest_zero}
use Rattle.phase.proofs.Sums.{L, Q}
use Rattle.phase.proofs.WireSums.{apart_same, few_zero}
use Rattle.phase.proofs.Wires.{ones_one, ones_two}
use Rattle.phase.specs.Coefficients.{SameAtThree, SamePhases, l}
use Rattle.phase.specs.NewWeights.{MarksAndRest, apart, new_weights, one_rest, pair_rest, rest}

-- v is the sum of the weights, x that of the marks, a that of w
fall : (v x a r : ℕ) → v % 8 ≡ (x + r) % 8 → v % 4 ≡ a % 4 → (x + r) % 4 ≡ a % 4
fall v x a r e h = omega arith

differ_none : (x a : ℕ) → (x + 0) % 4 ≡ a % 4 → (3 * a + x) % 4 ≡ 0
differ_none x a h = cong_by 4 0 (3 * (a / 4) + x / 4 + x % 4) (3 * a + x) 0 (omega arith)

differ_two : (x a : ℕ) → (x + 6) % 4 ≡ a % 4 → (3 * a + x) % 4 ≡ 2
differ_two x a h = cong_by 4 2 (3 * (a / 4) + (x + 6) / 4 + (x + 6) % 4) (3 * a + x) 2 (omega arith)

solve_q : (v x a r : ℕ) → (r ≡ 0) ⊎ (r ≡ 6) → v % 8 ≡ (x + r) % 8 → v % 4 ≡ a % 4 → r ≡ 3 * ((3 * a + x) % 4)
solve_q v x a r (inl z) e h = z ∙ rw (differ_none x a (rw z at (fall v x a r e h)))
solve_q v x a r (inr z) e h = z ∙ rw (differ_two x a (rw z at (fall v x a r e h)))

solve_l : (v x a r s : ℕ) → r < 8 → v % 8 ≡ (x + (r + s)) % 8 → v % 8 ≡ a % 8 → r ≡ (a % 8 + 7 * (x % 8 + s)) % 8
solve_l v x a r s small e h =
    sym (mod-eq_of_lt small) ∙ cong_by 8 (x + s) ((x + (r + s)) / 8 + 7 * (x / 8)) r (a % 8 + 7 * (x % 8 + s)) (omega arith)

module _ (size n : ℕ) (room : 2 ^ n ≤ size) (w marks v : List ℕ) (sm : SoundWeights size n marks) (sv : SoundWeights size n v)
    (shape : MarksAndRest n marks v) (same : SamePhases n v w) where
  at_three : SameAtThree n v w
  at_three = same_at_three n v w same

  wv : Wide n v
  wv = wide size n v room sv

  wm : Wide n marks
  wm = wide size n marks room sm

  few : (p : ℕ) → p < 2 ^ n → 2 < ones p → shape.added p ≡ 0
  few p h o = shape.on_others p h (omega arith) (omega arith)

  added_two : (i j : ℕ) → i < j → j < n → shape.added (2 ^ i + 2 ^ j) ≡ rest n w marks (2 ^ i + 2 ^ j)
  added_two i j h g =
      solve_q (Q v i j) (Q marks i j) (Q w i j) (shape.added (2 ^ i + 2 ^ j))
      (shape.on_two (2 ^ i + 2 ^ j) (two_lt n i j h g) (ones_two i j h))
      (added_q n v marks shape.added wv wm shape.is few i j h g) (back_q n v w at_three i j h g)
      ∙ sym (rest_two w marks n i j h g ∙ pair_rest-is w marks i j)

  -- in either order
  added_pair : (i j : ℕ) → j ≢ i → i < n → j < n → shape.added (2 ^ i + 2 ^ j) ≡ rest n w marks (2 ^ i + 2 ^ j)
  added_pair i j ne hi hj = go (dec_lt i j)
    where
      go : Dec (i < j) → shape.added (2 ^ i + 2 ^ j) ≡ rest n w marks (2 ^ i + 2 ^ j)
      go (yes h) = added_two i j h hj
      go (no h) = rw (add_comm (2 ^ i) (2 ^ j)) (added_two j i (omega arith) hi)

  pairs_same : (i : ℕ) → i < n → sum n (λ j. apart i j * shape.added (2 ^ i + 2 ^ j)) ≡ sum n (λ j. apart i j * pair_rest w marks i j)
  pairs_same i h =
      sum-ext n (λ j. apart i j * shape.added (2 ^ i + 2 ^ j)) (λ j. apart i j * rest n w marks (2 ^ i + 2 ^ j))
      (λ j hj. go j hj (ℕ_discrete j i))
      ∙ pairs_rest w marks n i h
    where
      go : (j : ℕ) → j < n → Dec (j ≡ i) → apart i j * shape.added (2 ^ i + 2 ^ j) ≡ apart i j * rest n w marks (2 ^ i + 2 ^ j)
      go j hj (yes e) = rw (e, apart_same i) (omega arith)
      go j hj (no ne) = ap (λ (t : ℕ). apart i j * t) (added_pair i j ne h hj)

  added_one : (i : ℕ) → i < n → shape.added (2 ^ i) ≡ rest n w marks (2 ^ i)
  unfolding one_rest l
  added_one i h =
      solve_l (L v i) (L marks i) (L w i) (shape.added (2 ^ i)) (sum n (λ j. apart i j * pair_rest w marks i j))
      (shape.on_one (2 ^ i) (pow-lt h) (ones_one i)).0
      (added_l n v marks shape.added wv wm shape.is few i h ∙ rw (pairs_same i h)) (back_l n v w at_three i h)
      ∙ sym (rest_one w marks n i h)

  -- the rest itself; two numbers are equal where their distance is 0
  pub added_is : (p : ℕ) → p < 2 ^ n → shape.added p ≡ rest n w marks p
  unfolding ones ones_in
  added_is p h =
      equal (shape.added p) (rest n w marks p)
      (few_zero n (λ p. shape.added p - rest n w marks p + (rest n w marks p - shape.added p))
      (λ p h o. rw (few p h o, rest_many w marks n p o))
      (rw (shape.on_others 0 (omega arith) (omega arith) (omega arith), rest_zero w marks n))
      (λ i h. near _ _ (added_one i h)) (λ i j h g. near _ _ (added_two i j h g)) p h)
    where
      near : (a b : ℕ) → a ≡ b → a - b + (b - a) ≡ 0
      near a b e = omega arith

      equal : (a b : ℕ) → a - b + (b - a) ≡ 0 → a ≡ b
      equal a b e = omega arith

  pub new_unique : v ≡ new_weights size n w marks
  new_unique =
      same_list size n v (new_weights size n w marks) sv.long (new_sound size n w marks room sm.none).long
      (λ p h. shape.is p h ∙ ap (λ (t : ℕ). (weight marks p + t) % 8) (added_is p h) ∙ sym (new_low size n w marks p h))
      (λ p h. sv.high p h ∙ sym (new_high size n w marks p h))
