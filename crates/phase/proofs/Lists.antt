-- Weights as lists: sums over a list are sums over the 2 ^ n parities; a list made by `pad`; and sums over weights that are added modulo 8.
use mathlib.Core.List.{◌++◌, List}
use mathlib.Core.Path.{◌≡◌, ap, sym, ◌∙◌}
use Prim.Native.Nat.{◌%◌, ◌*◌, ◌+◌, ◌-◌, ◌<◌, ◌^◌, ℕ, ◌≤◌}
use native.Mathlib.Decide.{dec_lt}
use native.Mathlib.Omega.{arith}
use lib.ListN.{get_or-append, get_or, length, length-append, length-replicate, replicate}
use lib.Seq.{ext_get_or, get_or-append-add}
use Rattle.circuit.proofs.OddSet.{length-odd, odd_mark}
use Rattle.circuit.specs.OddSet.{odd_set}
use Rattle.circuit.specs.Sound.{SoundMarks, SoundWeights, weight}
use Rattle.gf2.proofs.Modular.{mul_mod_l}
use Rattle.gf2.proofs.Sum.{sum-add, sum-append, sum-ext, sum-mod, sum-zero}
use Rattle.gf2.proofs.Table.{get_d_tabulate, get_or-zeros, length-tabulate}
use Rattle.gf2.specs.Sum.{sum}
use Rattle.gf2.specs.Table.{tabulate, weighted_sum}
use Rattle.phase.specs.NewWeights.{pad}

-- room for the parities of n wires, and 0 from there on
pub record Wide (n : ℕ) (w : List ℕ) : Type 0 where
  pub room : 2 ^ n ≤ length w
  pub high : (p : ℕ) → 2 ^ n ≤ p → weight w p ≡ 0

pub wide : (size n : ℕ) (w : List ℕ) → 2 ^ n ≤ size → SoundWeights size n w → Wide n w
wide size n w h s = record { room = omega (arith, s.long); high = s.high }

-- marks are weights
pub marks_weights : (size n : ℕ) (marks : List ℕ) → SoundMarks size n marks → SoundWeights size n marks
marks_weights size n marks s = record { long = s.long; small = λ p. omega (arith, s.bits p); none = s.none; high = s.high }

-- the odd set of sound weights is sound
pub odd_sound : (size n : ℕ) (w : List ℕ) → SoundWeights size n w → SoundMarks size n (odd_set w)
odd_sound size n w s =
    record {
      long = length-odd w ∙ s.long;
      bits = λ p. rw (odd_mark w p) (omega arith);
      none = odd_mark w 0 ∙ rw s.none;
      high = λ p h. odd_mark w p ∙ rw (s.high p h);
    }

pub weighted_sum-wide : (n : ℕ) (w : List ℕ) → Wide n w → (f : ℕ → ℕ) → weighted_sum w f ≡ sum (2 ^ n) (λ p. weight w p * f p)
unfolding weighted_sum
weighted_sum-wide n w s f =
    let k : ℕ = length w - 2 ^ n in
    let e : length w ≡ 2 ^ n + k = omega (arith, s.room) in
    ap (λ (m : ℕ). sum m (λ p. weight w p * f p)) e
    ∙ omega (
      arith,
      sum-append (2 ^ n) k (λ p. weight w p * f p),
      sum-ext k (λ i. weight w (2 ^ n + i) * f (2 ^ n + i)) (λ i. 0) (λ i hi. rw (s.high (2 ^ n + i) (omega arith)) (omega arith)),
      sum-zero k,
    )

-- ---- pad

module _ (size n : ℕ) (f : ℕ → ℕ) where
  pub pad-length : 2 ^ n ≤ size → length (pad size n f) ≡ size
  unfolding pad
  pad-length h =
      omega (
        arith,
        length-append (tabulate (2 ^ n) f) (replicate (size - 2 ^ n) 0),
        length-tabulate (2 ^ n) f,
        length-replicate {A = ℕ} (size - 2 ^ n) 0,
      )

  -- and never less than the parities of n wires
  pub pad-holds : 2 ^ n ≤ length (pad size n f)
  unfolding pad
  pad-holds = omega (arith, length-append (tabulate (2 ^ n) f) (replicate (size - 2 ^ n) 0), length-tabulate (2 ^ n) f)

  pub pad-low : (p : ℕ) → p < 2 ^ n → weight (pad size n f) p ≡ f p
  unfolding pad
  pad-low p h =
      get_or-append (tabulate (2 ^ n) f) (replicate (size - 2 ^ n) 0) 0 p (omega (arith, length-tabulate (2 ^ n) f))
      ∙ get_d_tabulate (2 ^ n) f p h

  pub pad-high : (p : ℕ) → 2 ^ n ≤ p → weight (pad size n f) p ≡ 0
  unfolding pad
  pad-high p h =
      let e : p ≡ length (tabulate (2 ^ n) f) + (p - 2 ^ n) = omega (arith, length-tabulate (2 ^ n) f) in
      ap (λ (i : ℕ). get_or (tabulate (2 ^ n) f ++ replicate (size - 2 ^ n) 0) i 0) e
      ∙ get_or-append-add (tabulate (2 ^ n) f) (replicate (size - 2 ^ n) 0) (p - 2 ^ n) 0 ∙ get_or-zeros (size - 2 ^ n) (p - 2 ^ n)

  pub pad-wide : 2 ^ n ≤ size → Wide n (pad size n f)
  pad-wide h = record { room = omega (arith, pad-length h); high = pad-high }

  -- what holds of f below 2 ^ n and of 0 holds of each weight
  pub pad-all : (P : ℕ → Type 0) → P 0 → ((p : ℕ) → p < 2 ^ n → P (f p)) → (p : ℕ) → P (weight (pad size n f) p)
  pad-all P z h p = go (dec_lt p (2 ^ n))
    where
      go : Dec (p < 2 ^ n) → P (weight (pad size n f) p)
      go (yes g) = rw (pad-low p g) (h p g)
      go (no g) = rw (pad-high p (omega arith)) z

-- two lists with the same weights below 2 ^ n
pub same_list : (size n : ℕ) (v w : List ℕ) → length v ≡ size → length w ≡ size
    → ((p : ℕ) → p < 2 ^ n → weight v p ≡ weight w p) → ((p : ℕ) → 2 ^ n ≤ p → weight v p ≡ weight w p) → v ≡ w
same_list size n v w lv lw low high = ext_get_or 0 v w (lv ∙ sym lw) (λ p hp. go p (dec_lt p (2 ^ n)))
  where
    go : (p : ℕ) → Dec (p < 2 ^ n) → weight v p ≡ weight w p
    go p (yes g) = low p g
    go p (no g) = high p (omega arith)

-- ---- v is u with r added, modulo 8
pub weighted_sum-added : (n : ℕ) (v u : List ℕ) (r : ℕ → ℕ) → Wide n v → Wide n u
    → ((p : ℕ) → p < 2 ^ n → weight v p ≡ (weight u p + r p) % 8)
    → (f : ℕ → ℕ) → weighted_sum v f % 8 ≡ (weighted_sum u f + sum (2 ^ n) (λ p. r p * f p)) % 8
weighted_sum-added n v u r wv wu is f =
    ap (λ (t : ℕ). t % 8) (weighted_sum-wide n v wv f)
    ∙ sum-mod 8 (2 ^ n) (λ p. weight v p * f p) (λ p. weight u p * f p + r p * f p)
    (λ p hp. ap (λ (t : ℕ). t * f p % 8) (is p hp) ∙ mul_mod_l 8 (weight u p + r p) (f p) ∙ ap (λ (t : ℕ). t % 8) (omega arith))
    ∙ ap (λ (t : ℕ). t % 8) (omega (arith, sum-add (2 ^ n) (λ p. weight u p * f p) (λ p. r p * f p), weighted_sum-wide n u wu f))
