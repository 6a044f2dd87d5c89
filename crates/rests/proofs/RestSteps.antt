-- The steps of the code that finds the new weights, over plain numbers and lists.
use mathlib.Core.List.{List, ◌++◌, map}
use mathlib.Core.Logic.{◌≢◌}
use mathlib.Core.Path.{ap, refl, sym, ◌∙◌, ◌≡◌}
use Prim.Native.Nat.{◌%◌, ◌*◌, ◌+◌, ◌<◌, ◌^◌, suc, zero, ℕ, ◌≤◌}
use native.Mathlib.Decide.{ℕ_discrete}
use native.Mathlib.Nat.{add-zero, mod-eq_of_lt}
use native.Mathlib.Numerals.{add-one}
use native.Mathlib.Omega.{arith}
use lib.Count.{ones}
use lib.ListN.{length, length-set, set, take}
use lib.Seq.{get_or-set_other, get_or-set_same}
use borrow.Rule.Slice.PartMut.{post_of}
use Rattle.std.proofs.lemmas.List.{places}
use Rattle.std.proofs.lemmas.List.FromFn.{sum_by-map-range_with_len_more}
use Rattle.std.specs.List.{range_with_len}
use Rattle.std.specs.List.{sum as list_sum}
use Rattle.circuit.proofs.Steps.{shifted}
use Rattle.circuit.specs.Limits.{max_wires}
use Rattle.circuit.specs.Sound.{SoundMarks, SoundWeights, weight}
use Rattle.gf2.proofs.Bit.{bit-pow_other}
use Rattle.gf2.proofs.Sum.{sum-ext}
use Rattle.gf2.proofs.Superset.{with_bit}
use Rattle.gf2.specs.Over.{Below}
use Rattle.gf2.specs.Sum.{sum}
use Rattle.phase.proofs.Lists.{Wide, marks_weights, same_list, wide}
use Rattle.phase.proofs.NewWeights.{new_high, new_low, new_sound}
use Rattle.phase.proofs.Rest.{rest_one, rest_others, rest_two}
use Rattle.phase.proofs.WireSums.{apart_other, apart_same}
use Rattle.phase.proofs.Wires.{is_one, is_two}
use Rattle.phase.specs.NewWeights.{apart, by_wires, new_weights, rest}
use Rattle.sums.specs.Difference.{DifferenceSums}
use Rattle.rests.proofs.BySums.{one_by_sums, pair_by_sums}
use Rattle.rests.specs.Rests.{RestsTo, most_rest, one_by, pair_by, rest_by}

-- ---- the rest of a pair, and those with the wire of p summed

module _ (s : List ℕ) (p q : ℕ) where
  pub same_wire : p ≡ q → (0 ≡ apart p q * pair_by (weight s (p + q))) × (0 ≤ most_rest)
  same_wire e = (rw (e, apart_same q) (omega arith), omega arith)

  pub other_wire : (r : ℕ) → p ≢ q → r ≡ pair_by (weight s (p + q)) → r ≡ apart p q * pair_by (weight s (p + q))
  other_wire r ne e = e ∙ rw (apart_other p q (λ d. ne (sym d))) (omega arith)

-- two wires of n are a parity of n
pub pair_inside : {n p : ℕ} → p < 2 ^ n → ones p ≡ 1 → (j : ℕ) → j < n → p ≢ 2 ^ j → p + 2 ^ j < 2 ^ n
pair_inside {n} {p} inside one j h ne =
    let t = is_one n p inside one in
    with_bit n p j h inside
    (rw t.2 (bit-pow_other t.0 j (λ e. ne (t.2 ∙ ap (λ (i : ℕ). 2 ^ i) e))))

-- the rest of the pair of p and wire j, whose parity is made as the machine does
abbrev pub with_wire : List ℕ → ℕ → ℕ → ℕ
with_wire s p j = apart p (1 * 2 ^ j % 2 ^ 64) * pair_by (weight s (p + 1 * 2 ^ j % 2 ^ 64))

-- a sum is that of the list of its numbers
listed : (f : ℕ → ℕ) (n : ℕ) → list_sum (map f (range_with_len 0 n)) ≡ sum n f
unfolding sum
listed f zero = refl
listed f (suc n) =
    ap (λ (k : ℕ). list_sum (map f (range_with_len 0 k))) (sym (add-one n))
    ∙ sum_by-map-range_with_len_more (λ x. x) f 0 n n (omega arith) ∙ ap (λ (t : ℕ). t + f n) (listed f n)

-- so it is of the rests of the pairs with the wire of p, over n wires
pub others_listed : (s : List ℕ) (p n : ℕ) → n ≤ max_wires
    → list_sum (map (with_wire s p) (range_with_len 0 n)) ≡ sum n (λ j. apart p (2 ^ j) * pair_by (weight s (p + 2 ^ j)))
others_listed s p n few =
    listed (with_wire s p) n
    ∙ sum-ext n (with_wire s p) (λ j. apart p (2 ^ j) * pair_by (weight s (p + 2 ^ j)))
    (λ j h. ap (λ (q : ℕ). apart p q * pair_by (weight s (p + q))) (shifted 64 j (omega (arith, few))))

-- each is small
apart_small : (p q x : ℕ) → x ≤ most_rest → Dec (q ≡ p) → apart p q * x ≤ most_rest
apart_small p q x h (yes e) = rw (e, apart_same p) (omega arith)
apart_small p q x h (no ne) = rw (apart_other p q ne) (omega arith)

pub others_small : (s : List ℕ) (p n : ℕ) → sum n (λ j. apart p (2 ^ j) * pair_by (weight s (p + 2 ^ j))) ≤ most_rest * n
unfolding sum
others_small s p zero = omega arith
others_small s p (suc n) =
    let x : ℕ = pair_by (weight s (p + 2 ^ n)) in
    omega (arith, others_small s p n, apart_small p (2 ^ n) x (omega arith) (ℕ_discrete (2 ^ n) p))

-- ---- the rest on p, by the number of its wires

module _ (n : ℕ) (s : List ℕ) (p r : ℕ) where
  pub rest_one_wire : ones p ≡ 1 → r ≡ one_by n s p → r ≡ rest_by n s p
  unfolding by_wires
  rest_one_wire o e = e ∙ rw o

  pub rest_two_wires : ones p ≡ 2 → r ≡ pair_by (weight s p) → r ≡ rest_by n s p
  unfolding by_wires
  rest_two_wires o e = e ∙ rw o

pub rest_more_wires : (n : ℕ) (s : List ℕ) (p : ℕ) → ones p ≢ 1 → ones p ≢ 2 → 0 ≡ rest_by n s p
unfolding by_wires
rest_more_wires n s p a b = go (ones p) a b
  where
    go : (o : ℕ) → o ≢ 1 → o ≢ 2 → 0 ≡ by_wires o (one_by n s p) (pair_by (weight s p))
    go zero a b = refl
    go (suc zero) a b = absurd (a refl)
    go (suc (suc zero)) a b = absurd (b refl)
    go (suc (suc (suc o))) a b = refl

-- ---- the rests added, from the front

pub rests_start : (n : ℕ) (s out : List ℕ) → RestsTo n s 0 out out
rests_start n s out = record { as_long = refl; added = λ p h. absurd (omega arith); onward = λ p h. refl }

pub rests_next : {n k : ℕ} {s out₀ out : List ℕ} (x : ℕ) → RestsTo n s k out₀ out → k < length out
    → x ≡ (weight out k + rest_by n s k) % 8 → RestsTo n s (k + 1) out₀ (set out k x)
rests_next {n} {k} {s} {out₀} {out} x t l e =
    record {
      as_long = length-set out k x ∙ t.as_long;
      added = λ p h. go p h (ℕ_discrete p k);
      onward = λ p h. get_or-set_other out k p x 0 (λ d. omega arith) ∙ t.onward p (omega arith);
    }
  where
    go : (p : ℕ) → p < k + 1 → Dec (p ≡ k) → weight (set out k x) p ≡ (weight out₀ p + rest_by n s p) % 8
    go p h (yes d) = rw d (get_or-set_same out k x 0 l ∙ e ∙ ap (λ (y : ℕ). (y + rest_by n s k) % 8) (t.onward k (omega arith)))
    go p h (no ne) = get_or-set_other out k p x 0 ne ∙ t.added p (omega arith)

-- and numbers below 8 are so in the front
pub below_take : (k : ℕ) (out : List ℕ) → Below 8 out → Below 8 (take k out)
below_take k out small i l = grind (arith, places, small i (grind (arith, places)))

-- a number below 8 has its rest where there are more than two wires
pub rests_stay : {n k : ℕ} {s out₀ out : List ℕ} (o : ℕ) → RestsTo n s k out₀ out → Below 8 out₀ → k < length out → o ≡ ones k → 2 < o
    → weight out k ≡ (weight out k + rest_by n s k) % 8
rests_stay {n} {k} {s} {out₀} {out} o t small l is more =
    let none = rest_more_wires n s k (omega (arith, is)) (omega (arith, is)) in
    let here : weight out k < 8 = rw (t.onward k (omega arith)) (small k (omega (arith, t.as_long))) in
    rw (← none, add-zero (weight out k)) (sym (mod-eq_of_lt here))

-- the front, with its rests, stands in its place
pub rests_end : {n k : ℕ} {s out front : List ℕ} → k ≤ length out → RestsTo n s k (take k out) front
    → RestsTo n s k out (front ++ post_of 0 k out)
rests_end {n} {k} {s} {out} {front} l t =
    record {
      as_long = grind (arith, places, t.as_long);
      added = λ p h. front_at p h ∙ t.added p h ∙ rw (taken p h);
      onward = λ p h. grind (arith, places, long);
    }
  where
    long : length front ≡ k
    long = t.as_long ∙ grind (arith, places)

    front_at : (p : ℕ) → p < k → weight (front ++ post_of 0 k out) p ≡ weight front p
    front_at p h = grind (arith, places, long)

    taken : (p : ℕ) → p < k → weight (take k out) p ≡ weight out p
    taken p h = grind (arith, places)

-- ---- the marks with the rests added are the new weights

module _ (n : ℕ) (w u s : List ℕ) (ww : Wide n w) (wu : Wide n u) (sums : DifferenceSums n w u s) where
  rest_is : (p : ℕ) → p < 2 ^ n → rest_by n s p ≡ rest n w u p
  unfolding by_wires
  rest_is p h = go (ones p) refl
    where
      go : (o : ℕ) → ones p ≡ o → by_wires o (one_by n s p) (pair_by (weight s p)) ≡ rest n w u p
      go zero e = sym (rest_others w u n p (omega arith) (omega arith))
      go (suc zero) e =
          let t = is_one n p h e in
          rw t.2 (one_by_sums n w u s ww wu sums t.0 t.1 ∙ sym (rest_one w u n t.0 t.1))
      go (suc (suc zero)) e =
          let t = is_two n p h e in
          rw t.4
          (pair_by_sums n w u s ww wu sums t.0 t.1 t.2 t.3 ∙ sym (rest_two w u n t.0 t.1 t.2 t.3))
      go (suc (suc (suc o))) e = sym (rest_others w u n p (omega arith) (omega arith))

-- s holds the sums of the weights less the marks, v the marks, and out these with the rests
pub new_made : {size n : ℕ} {w u s v out : List ℕ} → 2 ^ n ≤ size → SoundWeights size n w → SoundMarks size n u
    → DifferenceSums n w u s → v ≡ u → RestsTo n s (2 ^ n) v out → out ≡ new_weights size n w u
new_made {size} {n} {w} {u} {s} {v} {out} room sw su sums f rests =
    same_list size n out (new_weights size n w u) (rests.as_long ∙ ap length f ∙ su.long) (new_sound size n w u room su.none).long
    (λ p h. rests.added p h ∙ rw (f, is p h) (sym (new_low size n w u p h)))
    (λ p h. rests.onward p h ∙ rw f (su.high p h) ∙ sym (new_high size n w u p h))
  where
    is : (p : ℕ) → p < 2 ^ n → rest_by n s p ≡ rest n w u p
    is = rest_is n w u s (wide size n w room sw) (wide size n u room (marks_weights size n u su)) sums
