-- Document 01, "Signature": the signature of weights, and weights that even weights alone tell apart. `size` is the number of weights.
use Rattle.std.specs.Prelude.{List, ◌≡◌, ◌%◌, ◌+◌, ◌<◌, ◌^◌, ℕ}
use Rattle.circuit.specs.Says.{phase_at}
use Rattle.circuit.specs.Sound.{SoundWeights, weight}
use Rattle.phase.specs.Coefficients.{c, l, q}

-- the signature is l, q and c modulo 2; v and w have the same
pub record SameSignature (n : ℕ) (v w : List ℕ) : Type 0 where
  pub l2 : (i : ℕ) → i < n → l v i % 2 ≡ l w i % 2
  pub q2 : (i j : ℕ) → i < j → j < n → q v i j % 2 ≡ q w i j % 2
  pub c2 : (i j k : ℕ) → i < j → j < k → k < n → c v i j k % 2 ≡ c w i j k % 2

-- the phases of v differ from those of w by what even weights alone can make
pub record EvenApart (size n : ℕ) (v w : List ℕ) : Type 0 where
  pub even : List ℕ
  pub even_sound : SoundWeights size n even
  pub is_even : (p : ℕ) → weight even p % 2 ≡ 0
  pub phases : (x : ℕ) → x < 2 ^ n → phase_at n v x ≡ (phase_at n w x + phase_at n even x) % 8
