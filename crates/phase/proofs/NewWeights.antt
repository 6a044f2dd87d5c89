-- The new weights are sound, their odd set is the marks, and their coefficients are those of w.
use mathlib.Core.List.{List}
use mathlib.Core.Logic.{◌⊎◌}
use mathlib.Core.Path.{ap, sym, ◌∙◌, ◌≡◌}
use Prim.Native.Nat.{◌%◌, ◌*◌, ◌+◌, ◌-◌, ◌/◌, ◌<◌, ◌^◌, ℕ, ◌≤◌}
use native.Mathlib.Omega.{arith}
use lib.Count.{ones}
use lib.ListN.{length}
use lib.Pow.{pow_pos}
use Rattle.circuit.proofs.OddSet.{length-odd, odd_mark}
use Rattle.circuit.specs.OddSet.{odd_set}
use Rattle.circuit.specs.Sound.{SoundMarks, SoundWeights, weight}
use Rattle.gf2.proofs.Modular.{cong_by}
use Rattle.gf2.specs.Sum.{sum}
use Rattle.phase.proofs.Added.{added_c, added_l, added_q}
use Rattle.phase.proofs.ByCoefficients.{same_phases}
use Rattle.phase.proofs.Lists.{Wide, pad-all, pad-high, pad-holds, pad-length, pad-low, same_list, wide}
use Rattle.phase.proofs.Rest.{one_rest-lt, pair_rest-if_even, pair_rest-is, pairs_rest, rest_even, rest_many, rest_one, rest_others}
use Rattle.phase.proofs.Rest.{rest_two, rest_zero}
use Rattle.phase.proofs.Sums.{C, L, Q, SameSums}
use Rattle.phase.proofs.Wires.{is_one, is_two}
use Rattle.phase.specs.Coefficients.{SameCoefficients, SamePhases, c, l, q}
use Rattle.phase.specs.NewWeights.{MarksAndRest, apart, new_weight, new_weights, one_rest, pair_rest, rest}

-- x is the sum of u, a that of w, s that of the pairs: the rest of one wire makes up for the difference
meets_l : (v x a s : ℕ) → v % 8 ≡ (x + ((a % 8 + 7 * (x % 8 + s)) % 8 + s)) % 8 → v % 8 ≡ a % 8
meets_l v x a s e =
    let t : ℕ = a % 8 + 7 * (x % 8 + s) in
    e ∙ cong_by 8 (t / 8 + a / 8 + 7 * (x / 8)) (x + s) (x + (t % 8 + s)) a (omega arith)

meets_q : (v x a : ℕ) → v % 8 ≡ (x + 3 * ((3 * a + x) % 4)) % 8 → v % 4 ≡ a % 4
meets_q v x a e = go (x + 3 * ((3 * a + x) % 4)) e (cong_by 4 (3 * ((3 * a + x) / 4)) (2 * a + x) _ a (omega arith))
  where
    go : (t : ℕ) → v % 8 ≡ t % 8 → t % 4 ≡ a % 4 → v % 4 ≡ a % 4
    go t e f = omega arith

meets_c : (v x a : ℕ) → v % 8 ≡ (x + 0) % 8 → x % 2 ≡ a % 2 → v % 2 ≡ a % 2
meets_c v x a e f = omega arith

module _ (size n : ℕ) (w u : List ℕ) where
  pub new_low : (p : ℕ) → p < 2 ^ n → weight (new_weights size n w u) p ≡ new_weight n w u p
  unfolding new_weights
  new_low = pad-low size n (new_weight n w u)

  pub new_high : (p : ℕ) → 2 ^ n ≤ p → weight (new_weights size n w u) p ≡ 0
  unfolding new_weights
  new_high = pad-high size n (new_weight n w u)

  pub new_holds : 2 ^ n ≤ length (new_weights size n w u)
  unfolding new_weights
  new_holds = pad-holds size n (new_weight n w u)

  pub new_sound : 2 ^ n ≤ size → weight u 0 ≡ 0 → SoundWeights size n (new_weights size n w u)
  unfolding new_weights
  new_sound room none =
      record {
        long = pad-length size n (new_weight n w u) room;
        small = pad-all size n (new_weight n w u) (λ x. x < 8) (omega arith) (λ p h. omega arith);
        none = pad-low size n (new_weight n w u) 0 (pow_pos n) ∙ rw (none, rest_zero w u n);
        high = pad-high size n (new_weight n w u);
      }

-- from any sound weights u with the signature of w
module _ (size n : ℕ) (room : 2 ^ n ≤ size) (w u : List ℕ) (sound : SoundWeights size n u) (same : SameSums n u w) where
  is : (p : ℕ) → p < 2 ^ n → weight (new_weights size n w u) p ≡ (weight u p + rest n w u p) % 8
  is = new_low size n w u

  wn : Wide n (new_weights size n w u)
  wn = wide size n (new_weights size n w u) room (new_sound size n w u room sound.none)

  few : (p : ℕ) → p < 2 ^ n → 2 < ones p → rest n w u p ≡ 0
  few p h o = rest_many w u n p o

  wu : Wide n u
  wu = wide size n u room sound

  new_l : (i : ℕ) → i < n → L (new_weights size n w u) i % 8 ≡ L w i % 8
  unfolding one_rest l
  new_l i h =
      meets_l (L (new_weights size n w u) i) (L u i) (L w i) (sum n (λ j. apart i j * pair_rest w u i j))
      (added_l n (new_weights size n w u) u (rest n w u) wn wu is few i h ∙ rw (pairs_rest w u n i h, rest_one w u n i h))

  new_q : (i j : ℕ) → i < j → j < n → Q (new_weights size n w u) i j % 4 ≡ Q w i j % 4
  new_q i j h g =
      meets_q (Q (new_weights size n w u) i j) (Q u i j) (Q w i j)
      (added_q n (new_weights size n w u) u (rest n w u) wn wu is few i j h g ∙ rw (rest_two w u n i j h g, pair_rest-is w u i j))

  new_c : (i j k : ℕ) → i < j → j < k → k < n → C (new_weights size n w u) i j k % 2 ≡ C w i j k % 2
  new_c i j k h g lk =
      meets_c (C (new_weights size n w u) i j k) (C u i j k) (C w i j k)
      (added_c n (new_weights size n w u) u (rest n w u) wn wu is few i j k h g) (same.c i j k h g lk)

  pub new_coefficients : SameCoefficients n (new_weights size n w u) w
  unfolding l q c
  new_coefficients = record { same_l = new_l; same_q = λ i j h g. ap (λ (t : ℕ). (4 - t) % 4) (new_q i j h g); same_c = new_c }

  pub new_phases : SamePhases n (new_weights size n w u) w
  new_phases x h = same_phases n (new_weights size n w u) w new_coefficients x

-- their shape, where every rest is even
module _ (size n : ℕ) (w marks : List ℕ) (even : (p : ℕ) → p < 2 ^ n → rest n w marks p % 2 ≡ 0) where
  pub even_shape : MarksAndRest n marks (new_weights size n w marks)
  even_shape =
      record {
        added = rest n w marks;
        is = new_low size n w marks;
        on_one = λ p h e. (one p h e, even p h);
        on_two = two;
        on_others = λ p h a b. rest_others w marks n p a b;
      }
    where
      one : (p : ℕ) → p < 2 ^ n → ones p ≡ 1 → rest n w marks p < 8
      one p h e = let t = is_one n p h e in rw (t.2, rest_one w marks n t.0 t.1) (one_rest-lt n w marks t.0)

      two : (p : ℕ) → p < 2 ^ n → ones p ≡ 2 → (rest n w marks p ≡ 0) ⊎ (rest n w marks p ≡ 6)
      two p h e =
          let t = is_two n p h e in
          let r : rest n w marks p ≡ pair_rest w marks t.0 t.1 =
          ap (rest n w marks) t.4 ∙ rest_two w marks n t.0 t.1 t.2 t.3 in
          rw r (pair_rest-if_even w marks t.0 t.1 (ap (λ (x : ℕ). x % 2) (sym r) ∙ even p h))

-- it is even where the marks are the odd set of the new weights
pub own_even : (size n : ℕ) (w marks : List ℕ) → ((p : ℕ) → weight marks p < 2) → odd_set (new_weights size n w marks) ≡ marks
    → (p : ℕ) → p < 2 ^ n → rest n w marks p % 2 ≡ 0
own_even size n w marks bits own p h =
    go (weight marks p) (rest n w marks p) (bits p)
    (sym (ap (λ (t : ℕ). t % 2) (new_low size n w marks p h)) ∙ sym (odd_mark (new_weights size n w marks) p)
    ∙ ap (λ (m : List ℕ). weight m p) own)
  where
    go : (m r : ℕ) → m < 2 → (m + r) % 8 % 2 ≡ m → r % 2 ≡ 0
    go m r h e = omega arith

-- from sound marks with the signature of w
module _ (size n : ℕ) (room : 2 ^ n ≤ size) (w marks : List ℕ) (sound : SoundMarks size n marks) (same : SameSums n marks w) where
  pub new_odd_set : odd_set (new_weights size n w marks) ≡ marks
  new_odd_set =
      same_list size n (odd_set (new_weights size n w marks)) marks
      (length-odd (new_weights size n w marks) ∙ (new_sound size n w marks room sound.none).long) sound.long
      (λ p h. odd_mark (new_weights size n w marks) p ∙ ap (λ (t : ℕ). t % 2) (new_low size n w marks p h)
      ∙ bit-left (weight marks p) (rest n w marks p) (sound.bits p) (rest_even n w marks same p h))
      (λ p h. odd_mark (new_weights size n w marks) p ∙ rw (new_high size n w marks p h) (sym (sound.high p h)))
    where
      bit-left : (m r : ℕ) → m < 2 → r % 2 ≡ 0 → (m + r) % 8 % 2 ≡ m
      bit-left m r h e = omega arith

  pub new_shape : MarksAndRest n marks (new_weights size n w marks)
  new_shape = even_shape size n w marks (rest_even n w marks same)
