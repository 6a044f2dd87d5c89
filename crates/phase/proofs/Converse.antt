-- Back from phases to coefficients: the phases at the states with one, two and three wires set give l, then q, then c.
use mathlib.Core.List.{List}
use mathlib.Core.Logic.{◌↔◌}
use mathlib.Core.Path.{ap, sym, ◌∙◌, ◌≡◌}
use Prim.Native.Nat.{◌%◌, ◌*◌, ◌+◌, ◌-◌, ◌/◌, ◌<◌, ◌^◌, ℕ}
use native.Mathlib.Nat.{mod-add-mod}
use native.Mathlib.Omega.{arith}
use lib.Bits.{bit_xor}
use lib.ListN.{get_or, length}
use lib.Pow.{pow-lt}
use Rattle.circuit.specs.Says.{phase_at}
use Rattle.gf2.proofs.Bit.{bit-lt, three_lt, two_lt}
use Rattle.gf2.proofs.Brute.{brute2, brute3}
use Rattle.gf2.proofs.Modular.{add_cong, cong_by}
use Rattle.gf2.proofs.Parity.{parity-comm, parity-pow, parity-xor_r}
use Rattle.gf2.proofs.Sum.{sum-add, sum-ext, sum-scale}
use Rattle.gf2.proofs.Table.{weighted_sum-ext}
use Rattle.gf2.specs.Bit.{bit}
use Rattle.gf2.specs.Parity.{parity}
use Rattle.gf2.specs.Table.{weighted_sum}
use Rattle.phase.proofs.ByCoefficients.{same_phases}
use Rattle.phase.proofs.Sums.{C, L, Q}
use Rattle.phase.proofs.Wires.{three_is_xor, two_is_xor}
use Rattle.phase.specs.Coefficients.{SameAtThree, SameCoefficients, SamePhases, c, l, q}

parity-one : (n i p : ℕ) → i < n → parity n p (2 ^ i) ≡ bit p i
parity-one n i p h = parity-comm n p (2 ^ i) ∙ parity-pow n i p h

parity-two : (n i j p : ℕ) → i < j → j < n → parity n p (2 ^ i + 2 ^ j) ≡ (bit p i + bit p j) % 2
parity-two n i j p h hj = rw (← two_is_xor i j h, parity-xor_r n p (2 ^ i) (2 ^ j), parity-one n i p (omega arith), parity-one n j p hj)

parity-three : (n i j k p : ℕ) → i < j → j < k → k < n → parity n p (2 ^ i + 2 ^ j + 2 ^ k) ≡ ((bit p i + bit p j) % 2 + bit p k) % 2
parity-three n i j k p h g hk =
    rw (
      ← three_is_xor i j k h g,
      parity-xor_r n p (bit_xor (2 ^ i) (2 ^ j)) (2 ^ k),
      two_is_xor i j h,
      parity-two n i j p h (omega arith),
      parity-one n k p hk,
    )

-- one parity of two and of three bits, as numbers, times a weight m
weighed_two : (m a b : ℕ) → a < 2 → b < 2 → m * ((a + b) % 2) + 2 * (m * (a * b)) ≡ m * a + m * b
weighed_two m a b ha hb = times ((a + b) % 2) (brute2 (λ a b. (a + b) % 2 + 2 * (a * b)) (λ a b. a + b) tt a b ha hb)
  where
    times : (t : ℕ) → t + 2 * (a * b) ≡ a + b → m * t + 2 * (m * (a * b)) ≡ m * a + m * b
    times t e = omega (arith, ap (λ (y : ℕ). m * y) e)

weighed_three : (m a b d : ℕ) → a < 2 → b < 2 → d < 2
    → m * (((a + b) % 2 + d) % 2) + 2 * (m * (a * b) + m * (a * d) + m * (b * d)) ≡ m * a + m * b + m * d + 4 * (m * (a * b * d))
weighed_three m a b d ha hb hd =
    times (((a + b) % 2 + d) % 2)
    (brute3 (λ a b d. ((a + b) % 2 + d) % 2 + 2 * (a * b + a * d + b * d)) (λ a b d. a + b + d + 4 * (a * b * d)) tt a b d ha hb hd)
  where
    times : (t : ℕ) → t + 2 * (a * b + a * d + b * d) ≡ a + b + d + 4 * (a * b * d)
        → m * t + 2 * (m * (a * b) + m * (a * d) + m * (b * d)) ≡ m * a + m * b + m * d + 4 * (m * (a * b * d))
    times t e = omega (arith, ap (λ (y : ℕ). m * y) e)

module _ (w : List ℕ) where
  two_wires : (i j : ℕ) → weighted_sum w (λ p. (bit p i + bit p j) % 2) + 2 * Q w i j ≡ L w i + L w j
  unfolding weighted_sum
  two_wires i j =
      let M : ℕ = length w in
      let m : ℕ → ℕ = λ p. get_or w p 0 in
      omega (
        arith,
        sum-ext M (λ p. m p * ((bit p i + bit p j) % 2) + 2 * (m p * (bit p i * bit p j))) (λ p. m p * bit p i + m p * bit p j)
            (λ p lp. weighed_two (m p) (bit p i) (bit p j) (bit-lt p i) (bit-lt p j)),
        sum-add M (λ p. m p * ((bit p i + bit p j) % 2)) (λ p. 2 * (m p * (bit p i * bit p j))),
        sum-scale M 2 (λ p. m p * (bit p i * bit p j)),
        sum-add M (λ p. m p * bit p i) (λ p. m p * bit p j),
      )

  three_wires : (i j k : ℕ)
      → weighted_sum w (λ p. ((bit p i + bit p j) % 2 + bit p k) % 2) + 2 * (Q w i j + Q w i k + Q w j k)
      ≡ L w i + L w j + L w k + 4 * C w i j k
  unfolding weighted_sum
  three_wires i j k =
      let M : ℕ = length w in
      let m : ℕ → ℕ = λ p. get_or w p 0 in
      let t : ℕ → ℕ = λ p. m p * (((bit p i + bit p j) % 2 + bit p k) % 2) in
      let ij : ℕ → ℕ = λ p. m p * (bit p i * bit p j) in
      let ik : ℕ → ℕ = λ p. m p * (bit p i * bit p k) in
      let jk : ℕ → ℕ = λ p. m p * (bit p j * bit p k) in
      let ijk : ℕ → ℕ = λ p. m p * (bit p i * bit p j * bit p k) in
      omega (
        arith,
        sum-ext M (λ p. t p + 2 * (ij p + ik p + jk p)) (λ p. m p * bit p i + m p * bit p j + m p * bit p k + 4 * ijk p)
            (λ p lp. weighed_three (m p) (bit p i) (bit p j) (bit p k) (bit-lt p i) (bit-lt p j) (bit-lt p k)),
        sum-add M t (λ p. 2 * (ij p + ik p + jk p)),
        sum-scale M 2 (λ p. ij p + ik p + jk p),
        sum-add M (λ p. ij p + ik p) jk,
        sum-add M ij ik,
        sum-add M (λ p. m p * bit p i + m p * bit p j + m p * bit p k) (λ p. 4 * ijk p),
        sum-add M (λ p. m p * bit p i + m p * bit p j) (λ p. m p * bit p k),
        sum-add M (λ p. m p * bit p i) (λ p. m p * bit p j),
        sum-scale M 4 ijk,
      )

  phase_one : (n i : ℕ) → i < n → phase_at n w (2 ^ i) ≡ L w i % 8
  unfolding phase_at
  phase_one n i h = ap (λ (t : ℕ). t % 8) (weighted_sum-ext w (λ p. parity n p (2 ^ i)) (λ p. bit p i) (λ p. parity-one n i p h))

  phase_two : (n i j : ℕ) → i < j → j < n → (phase_at n w (2 ^ i + 2 ^ j) + 2 * Q w i j) % 8 ≡ (L w i + L w j) % 8
  unfolding phase_at
  phase_two n i j h hj =
      mod-add-mod (weighted_sum w (λ p. parity n p (2 ^ i + 2 ^ j))) 8 (2 * Q w i j)
      ∙ ap (λ (t : ℕ). (t + 2 * Q w i j) % 8)
      (weighted_sum-ext w (λ p. parity n p (2 ^ i + 2 ^ j)) (λ p. (bit p i + bit p j) % 2) (λ p. parity-two n i j p h hj))
      ∙ ap (λ (t : ℕ). t % 8) (two_wires i j)

  phase_three : (n i j k : ℕ) → i < j → j < k → k < n
      → (phase_at n w (2 ^ i + 2 ^ j + 2 ^ k) + 2 * (Q w i j + Q w i k + Q w j k)) % 8 ≡ (L w i + L w j + L w k + 4 * C w i j k) % 8
  unfolding phase_at
  phase_three n i j k h g hk =
      let s : ℕ = 2 * (Q w i j + Q w i k + Q w j k) in
      mod-add-mod (weighted_sum w (λ p. parity n p (2 ^ i + 2 ^ j + 2 ^ k))) 8 s
      ∙ ap (λ (t : ℕ). (t + s) % 8)
      (weighted_sum-ext w (λ p. parity n p (2 ^ i + 2 ^ j + 2 ^ k)) (λ p. ((bit p i + bit p j) % 2 + bit p k) % 2)
      (λ p. parity-three n i j k p h g hk))
      ∙ ap (λ (t : ℕ). t % 8) (three_wires i j k)

-- cancelling, modulo 8
cancel_two : (f f' s s' a : ℕ) → f ≡ f' → (f + 2 * s) % 8 ≡ a → (f' + 2 * s') % 8 ≡ a → s % 4 ≡ s' % 4
cancel_two f f' s s' a e h h' = cong_by 4 ((f' + 2 * s') / 8) ((f + 2 * s) / 8) s s' (omega arith)

cancel_three : (a a' s s' d d' f f' : ℕ) → f ≡ f' → a % 8 ≡ a' % 8 → s % 4 ≡ s' % 4 → (f + 2 * s) % 8 ≡ (a + 4 * d) % 8
    → (f' + 2 * s') % 8 ≡ (a' + 4 * d') % 8 → d % 2 ≡ d' % 2
cancel_three a a' s s' d d' f f' e ha hs h h' =
    cong_by 2 (s' / 4 + a / 8 + (f + 2 * s) / 8 + (a' + 4 * d') / 8)
    (s / 4 + a' / 8 + (a + 4 * d) / 8 + (f' + 2 * s') / 8) d d' (omega arith)

module _ (n : ℕ) (v w : List ℕ) (same : SameAtThree n v w) where
  pub back_l : (i : ℕ) → i < n → L v i % 8 ≡ L w i % 8
  back_l i h = sym (phase_one v n i h) ∙ same.at_one i h ∙ phase_one w n i h

  pub back_q : (i j : ℕ) → i < j → j < n → Q v i j % 4 ≡ Q w i j % 4
  back_q i j h k =
      let hi : i < n = omega arith in
      cancel_two (phase_at n v (2 ^ i + 2 ^ j)) (phase_at n w (2 ^ i + 2 ^ j)) (Q v i j) (Q w i j) ((L w i + L w j) % 8)
      (same.at_two i j h k)
      (phase_two v n i j h k ∙ add_cong 8 (L v i) (L w i) (L v j) (L w j) (back_l i hi) (back_l j k)) (phase_two w n i j h k)

  pub back_c : (i j k : ℕ) → i < j → j < k → k < n → C v i j k % 2 ≡ C w i j k % 2
  back_c i j k h g hk =
      let hj : j < n = omega arith in
      let hi : i < n = omega arith in
      cancel_three (L v i + L v j + L v k) (L w i + L w j + L w k)
      (Q v i j + Q v i k + Q v j k) (Q w i j + Q w i k + Q w j k) (C v i j k) (C w i j k)
      (phase_at n v (2 ^ i + 2 ^ j + 2 ^ k)) (phase_at n w (2 ^ i + 2 ^ j + 2 ^ k)) (same.at_three i j k h g hk)
      (add_cong 8 (L v i + L v j) (L w i + L w j) (L v k) (L w k)
      (add_cong 8 (L v i) (L w i) (L v j) (L w j) (back_l i hi) (back_l j hj)) (back_l k hk))
      (add_cong 4 (Q v i j + Q v i k) (Q w i j + Q w i k) (Q v j k) (Q w j k)
      (add_cong 4 (Q v i j) (Q w i j) (Q v i k) (Q w i k) (back_q i j h hj) (back_q i k (omega arith) hk)) (back_q j k g hk))
      (phase_three v n i j k h g hk) (phase_three w n i j k h g hk)

  pub coefficients_back : SameCoefficients n v w
  unfolding l q c
  coefficients_back =
      record {
        same_l = back_l;
        same_q = λ i j h k. ap (λ (t : ℕ). (4 - t) % 4) (back_q i j h k);
        same_c = back_c;
      }

pub same_at_three : (n : ℕ) (v w : List ℕ) → SamePhases n v w → SameAtThree n v w
same_at_three n v w same =
    record {
      at_one = λ i h. same (2 ^ i) (pow-lt h);
      at_two = λ i j h k. same (2 ^ i + 2 ^ j) (two_lt n i j h k);
      at_three =
          λ i j k h g f. same (2 ^ i + 2 ^ j + 2 ^ k) (three_lt n i j k h g f);
    }

-- equal phases on all states ⇔ equal l, q and c
pub phases_iff : (n : ℕ) (v w : List ℕ) → SamePhases n v w ↔ SameCoefficients n v w
phases_iff n v w = (λ same. coefficients_back n v w (same_at_three n v w same), λ s x h. same_phases n v w s x)
