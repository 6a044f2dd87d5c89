-- Document 01, "Signature": the coefficients l, q and c of weights, for wires i < j < k, and the phase by them.
use Rattle.std.specs.Prelude.{List, ◌≡◌, ◌%◌, ◌*◌, ◌+◌, ◌-◌, ◌<◌, ◌^◌, ℕ}
use Rattle.circuit.specs.Read.{Reading}
use Rattle.circuit.specs.Says.{phase_at}
use Rattle.gf2.specs.Bit.{bit}
use Rattle.gf2.specs.Sum.{sum}
use Rattle.gf2.specs.Table.{weighted_sum}

-- the sum of the weights of parities with i, modulo 8
unfoldable pub l : List ℕ → ℕ → ℕ
l w i = weighted_sum w (λ p. bit p i) % 8

-- minus the sum of the weights of parities with i and j, modulo 4
unfoldable pub q : List ℕ → ℕ → ℕ → ℕ
q w i j = (4 - weighted_sum w (λ p. bit p i * bit p j) % 4) % 4

-- the sum for parities with all three, modulo 2
unfoldable pub c : List ℕ → ℕ → ℕ → ℕ → ℕ
c w i j k = weighted_sum w (λ p. bit p i * bit p j * bit p k) % 2

-- the sum of l, 2 q and 4 c over the wires, pairs and triples whose bits of x are all set, modulo 8
unfoldable pub by_coefficients : ℕ → List ℕ → ℕ → ℕ
by_coefficients n w x =
    (sum n (λ i. bit x i * l w i)
    + 2 * sum n (λ j. sum j (λ i. bit x i * bit x j * q w i j))
    + 4 * sum n (λ k. sum k (λ j. sum j (λ i. bit x i * bit x j * bit x k * c w i j k)))) % 8

pub record SameCoefficients (n : ℕ) (v w : List ℕ) : Type 0 where
  pub same_l : (i : ℕ) → i < n → l v i ≡ l w i
  pub same_q : (i j : ℕ) → i < j → j < n → q v i j ≡ q w i j
  pub same_c : (i j k : ℕ) → i < j → j < k → k < n → c v i j k ≡ c w i j k

-- equal phases on all states
abbrev pub SamePhases : ℕ → List ℕ → List ℕ → Type 0
SamePhases n v w = (x : ℕ) → x < 2 ^ n → phase_at n v x ≡ phase_at n w x

-- equal phases on the states with one, two or three wires set
pub record SameAtThree (n : ℕ) (v w : List ℕ) : Type 0 where
  pub at_one : (i : ℕ) → i < n → phase_at n v (2 ^ i) ≡ phase_at n w (2 ^ i)
  pub at_two : (i j : ℕ) → i < j → j < n → phase_at n v (2 ^ i + 2 ^ j) ≡ phase_at n w (2 ^ i + 2 ^ j)
  pub at_three : (i j k : ℕ) → i < j → j < k → k < n → phase_at n v (2 ^ i + 2 ^ j + 2 ^ k) ≡ phase_at n w (2 ^ i + 2 ^ j + 2 ^ k)

-- two readings with the same rows and the same l, q and c: they say the same of every state
pub record SaysSame (n : ℕ) (a b : Reading) : Type 0 where
  pub rows : a.rows ≡ b.rows
  pub coefficients : SameCoefficients n a.weights b.weights
