-- The phase by l, q and c. Equal coefficients give equal phases.
use mathlib.Core.List.{List}
use mathlib.Core.Path.{ap, refl, sym, ◌∙◌, ◌≡◌}
use Prim.Native.Nat.{◌%◌, ◌*◌, ◌+◌, ◌-◌, ◌/◌, ◌<◌, suc, zero, ℕ}
use native.Mathlib.Omega.{arith}
use lib.ListN.{get_or, length}
use Rattle.circuit.specs.Says.{phase_at}
use Rattle.gf2.proofs.Expansion.{first_moment, parities, parities_by_moments, second_moment, third_moment}
use Rattle.gf2.proofs.Modular.{mod_by, mul_mod_r}
use Rattle.gf2.proofs.Sum.{sum-ext, sum-mod, sum-scale}
use Rattle.gf2.specs.Bit.{bit}
use Rattle.gf2.specs.Sum.{sum}
use Rattle.gf2.specs.Table.{weighted_sum}
use Rattle.phase.proofs.Sums.{C, L, Q}
use Rattle.phase.specs.Coefficients.{SameCoefficients, by_coefficients, c, l, q}

-- minus x is 3 x, modulo 4
pub minus4 : (x : ℕ) → (4 - x % 4) % 4 ≡ 3 * x % 4
minus4 x = go (x % 4) refl (omega arith)
  where
    go : (r : ℕ) → x % 4 ≡ r → r < 4 → (4 - r) % 4 ≡ 3 * x % 4
    go zero e h = sym (mod_by 4 (3 * (x / 4)) 0 (3 * x) (omega arith))
    go (suc zero) e h = sym (mod_by 4 (3 * (x / 4)) 3 (3 * x) (omega arith))
    go (suc (suc zero)) e h = sym (mod_by 4 (3 * (x / 4) + 1) 2 (3 * x) (omega arith))
    go (suc (suc (suc zero))) e h = sym (mod_by 4 (3 * (x / 4) + 2) 1 (3 * x) (omega arith))
    go (suc (suc (suc (suc r)))) e h = absurd (omega arith)

join : (a a' b b' c c' : ℕ) → a % 8 ≡ a' % 8 → 3 * b % 4 ≡ b' % 4 → c % 2 ≡ c' % 2 → (a + 6 * b + 4 * c) % 8 ≡ (a' + 2 * b' + 4 * c') % 8
join a a' b b' c c' h i j = norm a (3 * b) c (a + 6 * b + 4 * c) (omega arith) ∙ rw (h, i, j) (sym (norm a' b' c' _ refl))
  where
    norm : (a b c x : ℕ) → x ≡ a + 2 * b + 4 * c → x % 8 ≡ (a % 8 + 2 * (b % 4) + 4 * (c % 2)) % 8
    norm a b c x e = mod_by 8 (a / 8 + b / 4 + c / 2) _ _ (omega arith)

module _ (w : List ℕ) (n x : ℕ) where
  pairs : 3 * sum n (λ j. sum j (λ i. bit x i * bit x j * Q w i j)) % 4 ≡ sum n (λ j. sum j (λ i. bit x i * bit x j * q w i j)) % 4
  unfolding q
  pairs =
      ap (λ (s : ℕ). s % 4) (sym (sum-scale n 3 (λ j. sum j (λ i. bit x i * bit x j * Q w i j))))
      ∙ sum-mod 4 n (λ j. 3 * sum j (λ i. bit x i * bit x j * Q w i j)) (λ j. sum j (λ i. bit x i * bit x j * q w i j))
      (λ j lj. ap (λ (s : ℕ). s % 4) (sym (sum-scale j 3 (λ i. bit x i * bit x j * Q w i j)))
      ∙ sum-mod 4 j (λ i. 3 * (bit x i * bit x j * Q w i j)) (λ i. bit x i * bit x j * q w i j)
      (λ i li. term (bit x i * bit x j) (Q w i j)))
    where
      term : (a s : ℕ) → 3 * (a * s) % 4 ≡ a * ((4 - s % 4) % 4) % 4
      term a s = rw (minus4 s, mul_mod_r 4 a (3 * s)) (ap (λ (t : ℕ). t % 4) (omega arith))

  triples : sum n (λ k. sum k (λ j. sum j (λ i. bit x i * bit x j * bit x k * C w i j k))) % 2
      ≡ sum n (λ k. sum k (λ j. sum j (λ i. bit x i * bit x j * bit x k * c w i j k))) % 2
  unfolding c
  triples =
      sum-mod 2 n (λ k. sum k (λ j. sum j (λ i. bit x i * bit x j * bit x k * C w i j k)))
      (λ k. sum k (λ j. sum j (λ i. bit x i * bit x j * bit x k * c w i j k)))
      (λ k lk. sum-mod 2 k (λ j. sum j (λ i. bit x i * bit x j * bit x k * C w i j k))
      (λ j. sum j (λ i. bit x i * bit x j * bit x k * c w i j k))
      (λ j lj. sum-mod 2 j (λ i. bit x i * bit x j * bit x k * C w i j k) (λ i. bit x i * bit x j * bit x k * c w i j k)
      (λ i li. sym (mul_mod_r 2 (bit x i * bit x j * bit x k) (C w i j k)))))

  singles : sum n (λ i. bit x i * L w i) % 8 ≡ sum n (λ i. bit x i * l w i) % 8
  unfolding l
  singles = sum-mod 8 n (λ i. bit x i * L w i) (λ i. bit x i * l w i) (λ i li. sym (mul_mod_r 8 (bit x i) (L w i)))

  by_sums : phase_at n w x
      ≡ (sum n (λ i. bit x i * L w i) + 6 * sum n (λ j. sum j (λ i. bit x i * bit x j * Q w i j))
      + 4 * sum n (λ k. sum k (λ j. sum j (λ i. bit x i * bit x j * bit x k * C w i j k)))) % 8
  unfolding phase_at weighted_sum first_moment second_moment third_moment parities
  by_sums = parities_by_moments (length w) (λ p. get_or w p 0) n x

-- the phase by l, q and c, at every x
pub phase_by_coefficients : (n : ℕ) (w : List ℕ) (x : ℕ) → phase_at n w x ≡ by_coefficients n w x
unfolding by_coefficients
phase_by_coefficients n w x =
    by_sums w n x
    ∙ join (sum n (λ i. bit x i * L w i)) (sum n (λ i. bit x i * l w i))
    (sum n (λ j. sum j (λ i. bit x i * bit x j * Q w i j))) (sum n (λ j. sum j (λ i. bit x i * bit x j * q w i j)))
    (sum n (λ k. sum k (λ j. sum j (λ i. bit x i * bit x j * bit x k * C w i j k))))
    (sum n (λ k. sum k (λ j. sum j (λ i. bit x i * bit x j * bit x k * c w i j k))))
    (singles w n x) (pairs w n x) (triples w n x)

-- equal coefficients, equal phases
pub same_phases : (n : ℕ) (v w : List ℕ) → SameCoefficients n v w → (x : ℕ) → phase_at n v x ≡ phase_at n w x
unfolding by_coefficients
same_phases n v w s x = phase_by_coefficients n v x ∙ by ∙ sym (phase_by_coefficients n w x)
  where
    by : by_coefficients n v x ≡ by_coefficients n w x
    by =
        sums _ _ _ _ _ _
        (sum-ext n (λ i. bit x i * l v i) (λ i. bit x i * l w i) (λ i li. ap (λ (t : ℕ). bit x i * t) (s.same_l i li)))
        (sum-ext n (λ j. sum j (λ i. bit x i * bit x j * q v i j)) (λ j. sum j (λ i. bit x i * bit x j * q w i j))
        (λ j lj. sum-ext j (λ i. bit x i * bit x j * q v i j) (λ i. bit x i * bit x j * q w i j)
        (λ i li. ap (λ (t : ℕ). bit x i * bit x j * t) (s.same_q i j li lj))))
        (sum-ext n (λ k. sum k (λ j. sum j (λ i. bit x i * bit x j * bit x k * c v i j k)))
        (λ k. sum k (λ j. sum j (λ i. bit x i * bit x j * bit x k * c w i j k)))
        (λ k lk. sum-ext k (λ j. sum j (λ i. bit x i * bit x j * bit x k * c v i j k))
        (λ j. sum j (λ i. bit x i * bit x j * bit x k * c w i j k))
        (λ j lj. sum-ext j (λ i. bit x i * bit x j * bit x k * c v i j k) (λ i. bit x i * bit x j * bit x k * c w i j k)
        (λ i li. ap (λ (t : ℕ). bit x i * bit x j * bit x k * t) (s.same_c i j k li lj lk)))))
      where
        sums : (a a' b b' d d' : ℕ) → a ≡ a' → b ≡ b' → d ≡ d' → (a + 2 * b + 4 * d) % 8 ≡ (a' + 2 * b' + 4 * d') % 8
        sums a a' b b' d d' e f g = rw (e, f, g)
