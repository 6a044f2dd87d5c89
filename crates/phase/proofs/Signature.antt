-- Equal signatures, by the plain sums modulo 2 ⇔ the phases differ by what even weights alone can make.
-- And the odd set has the signature of its weights.
use mathlib.Core.List.{List}
use mathlib.Core.Logic.{inl, inr, ◌↔◌, ◌⊎◌}
use mathlib.Core.Path.{ap, refl, sym, ◌∙◌, ◌≡◌}
use Prim.Native.Nat.{◌%◌, ◌*◌, ◌+◌, ◌/◌, ◌<◌, ◌^◌, ℕ, ◌≤◌}
use native.Mathlib.Nat.{add-mod, zero-mul}
use native.Mathlib.Omega.{arith}
use lib.ListN.{get_or, length}
use lib.Pow.{pow_pos}
use Rattle.circuit.proofs.OddSet.{length-odd, odd_mark}
use Rattle.circuit.specs.OddSet.{odd_set}
use Rattle.circuit.specs.Says.{phase_at}
use Rattle.circuit.specs.Sound.{SoundWeights, weight}
use Rattle.gf2.proofs.Modular.{mul_mod_l}
use Rattle.gf2.proofs.Sum.{sum-mod, sum-zero}
use Rattle.gf2.specs.Bit.{bit}
use Rattle.gf2.specs.Parity.{parity}
use Rattle.gf2.specs.Sum.{sum}
use Rattle.gf2.specs.Table.{weighted_sum}
use Rattle.phase.proofs.Converse.{back_c, back_l, back_q, same_at_three}
use Rattle.phase.proofs.Lists.{Wide, pad-all, pad-high, pad-length, pad-low, pad-wide, weighted_sum-added, weighted_sum-wide, wide}
use Rattle.phase.proofs.NewWeights.{new_low, new_phases, new_sound}
use Rattle.phase.proofs.Rest.{one_rest-lt, pair_rest-cases, rest_even, rest_many, rest_one, rest_two, rest_zero}
use Rattle.phase.proofs.Sums.{L, Q, SameSums}
use Rattle.phase.proofs.WireSums.{few_zero}
use Rattle.phase.specs.Coefficients.{SameAtThree}
use Rattle.phase.specs.NewWeights.{new_weights, one_rest, pad, pair_rest, rest}
use Rattle.phase.specs.Signature.{EvenApart}

-- ---- adding weights adds phases
pub phase_added : (n : ℕ) (v u e : List ℕ) → Wide n v → Wide n u → Wide n e
    → ((p : ℕ) → p < 2 ^ n → weight v p ≡ (weight u p + weight e p) % 8) → (x : ℕ) → phase_at n v x ≡ (phase_at n u x + phase_at n e x) % 8
unfolding phase_at
phase_added n v u e wv wu we is x =
    weighted_sum-added n v u (weight e) wv wu is (λ p. parity n p x)
    ∙ ap (λ (t : ℕ). (weighted_sum u (λ p. parity n p x) + t) % 8) (sym (weighted_sum-wide n e we (λ p. parity n p x)))
    ∙ add-mod (weighted_sum u (λ p. parity n p x)) (weighted_sum e (λ p. parity n p x)) 8

module _ (size n : ℕ) (room : 2 ^ n ≤ size) (v w : List ℕ) (sv : SoundWeights size n v) (sw : SoundWeights size n w) where
  -- from equal signatures: the rest is such weights
  module _ (same : SameSums n w v) where
    rest_lt : (p : ℕ) → p < 2 ^ n → rest n v w p < 8
    rest_lt p h =
        small (rest n v w p)
        (few_zero n (λ p. rest n v w p / 8) (λ p h o. rw (rest_many v w n p o)) (rw (rest_zero v w n))
        (λ i h. rw (rest_one v w n i h) (none (one_rest n v w i) (one_rest-lt n v w i)))
        (λ i j h g. rw (rest_two v w n i j h g) (pair i j (pair_rest-cases n v w same i j h g))) p h)
      where
        small : (a : ℕ) → a / 8 ≡ 0 → a < 8
        small a e = omega arith

        none : (a : ℕ) → a < 8 → a / 8 ≡ 0
        none a e = omega arith

        pair : (i j : ℕ) → (pair_rest v w i j ≡ 0) ⊎ (pair_rest v w i j ≡ 6) → pair_rest v w i j / 8 ≡ 0
        pair i j (inl e) = rw e
        pair i j (inr e) = rw e

    rest_apart : EvenApart size n v w
    rest_apart =
        record {
          even = pad size n (rest n v w);
          even_sound =
              record {
                long = pad-length size n (rest n v w) room;
                small = pad-all size n (rest n v w) (λ x. x < 8) (omega arith) rest_lt;
                none = pad-low size n (rest n v w) 0 (pow_pos n) ∙ rest_zero v w n;
                high = pad-high size n (rest n v w);
              };
          is_even = pad-all size n (rest n v w) (λ x. x % 2 ≡ 0) refl (rest_even n v w same);
          phases =
              λ x h. sym (new_phases size n room v w sw same x h)
              ∙ phase_added n (new_weights size n v w) w (pad size n (rest n v w))
              (wide size n (new_weights size n v w) room (new_sound size n v w room sw.none))
              (wide size n w room sw) (pad-wide size n (rest n v w) room)
              (λ p hp. new_low size n v w p hp ∙ ap (λ (t : ℕ). (weight w p + t) % 8) (sym (pad-low size n (rest n v w) p hp))) x;
        }

  -- from even weights: w with them added has the phases of v, so its sums, and even weights change no sum modulo 2
  module _ (apart : EvenApart size n v w) where
    s : List ℕ
    s = pad size n (λ p. (weight w p + weight apart.even p) % 8)

    is : (p : ℕ) → p < 2 ^ n → weight s p ≡ (weight w p + weight apart.even p) % 8
    unfolding s
    is = pad-low size n (λ p. (weight w p + weight apart.even p) % 8)

    ws : Wide n s
    unfolding s
    ws = pad-wide size n (λ p. (weight w p + weight apart.even p) % 8) room

    ww : Wide n w
    ww = wide size n w room sw

    same_at : SameAtThree n v s
    same_at =
        same_at_three n v s
        (λ x h. apart.phases x h ∙ sym (phase_added n s w apart.even ws ww (wide size n apart.even room apart.even_sound) is x))

    even_sum : (f : ℕ → ℕ) → sum (2 ^ n) (λ p. weight apart.even p * f p) % 2 ≡ 0
    even_sum f =
        sum-mod 2 (2 ^ n) (λ p. weight apart.even p * f p) (λ p. 0)
        (λ p h. sym (mul_mod_l 2 (weight apart.even p) (f p)) ∙ rw (apart.is_even p, zero-mul (f p)))
        ∙ ap (λ (t : ℕ). t % 2) (sum-zero (2 ^ n))

    sum_kept : (f : ℕ → ℕ) → weighted_sum s f % 2 ≡ weighted_sum w f % 2
    sum_kept f =
        off (weighted_sum s f) (weighted_sum w f) (sum (2 ^ n) (λ p. weight apart.even p * f p))
        (weighted_sum-added n s w (weight apart.even) ws ww is f) (even_sum f)
      where
        off : (a b e : ℕ) → a % 8 ≡ (b + e) % 8 → e % 2 ≡ 0 → a % 2 ≡ b % 2
        off a b e h g = omega arith

    from8 : (a b : ℕ) → a % 8 ≡ b % 8 → a % 2 ≡ b % 2
    from8 a b h = omega arith

    from4 : (a b : ℕ) → a % 4 ≡ b % 4 → a % 2 ≡ b % 2
    from4 a b h = omega arith

    apart_signature : SameSums n v w
    apart_signature =
        record {
          l = λ i h. from8 (L v i) (L s i) (back_l n v s same_at i h) ∙ sum_kept (λ p. bit p i);
          q = λ i j h g. from4 (Q v i j) (Q s i j) (back_q n v s same_at i j h g) ∙ sum_kept (λ p. bit p i * bit p j);
          c = λ i j k h g f. back_c n v s same_at i j k h g f ∙ sum_kept (λ p. bit p i * bit p j * bit p k);
        }

  pub signature_iff : SameSums n v w ↔ EvenApart size n v w
  signature_iff = (λ s. rest_apart (flip s), apart_signature)
    where
      flip : SameSums n v w → SameSums n w v
      flip s = record { l = λ i h. sym (s.l i h); q = λ i j h g. sym (s.q i j h g); c = λ i j k h g f. sym (s.c i j k h g f) }

-- odd weights and their marks have the same sums modulo 2
odd_sums : (w : List ℕ) (f : ℕ → ℕ) → weighted_sum (odd_set w) f % 2 ≡ weighted_sum w f % 2
unfolding weighted_sum
odd_sums w f =
    ap (λ (m : ℕ). sum m (λ p. get_or (odd_set w) p 0 * f p) % 2) (length-odd w)
    ∙ sum-mod 2 (length w) (λ p. get_or (odd_set w) p 0 * f p) (λ p. get_or w p 0 * f p)
    (λ p l. ap (λ (x : ℕ). x * f p % 2) (odd_mark w p) ∙ mul_mod_l 2 (get_or w p 0) (f p))

pub odd_set-sums : (n : ℕ) (w : List ℕ) → SameSums n (odd_set w) w
odd_set-sums n w =
    record {
      l = λ i h. odd_sums w (λ p. bit p i);
      q = λ i j h g. odd_sums w (λ p. bit p i * bit p j);
      c = λ i j k h g f. odd_sums w (λ p. bit p i * bit p j * bit p k);
    }
