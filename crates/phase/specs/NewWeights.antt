-- Document 01, "The new weights": w are the weights of C, u the marks of the last odd set. Modulo 4, 3 is minus one; modulo 8, 7 is.
use Rattle.std.specs.Prelude.{◌++◌, List, ◌≢◌, ◌⊎◌, ◌≡◌, ◌%◌, ◌*◌, ◌+◌, ◌-◌, ◌<◌, ◌^◌, suc, zero, ℕ, replicate}
use Rattle.std.specs.Int.Count.{ones}
use Rattle.circuit.specs.Sound.{weight}
use Rattle.gf2.specs.Parity.{lowest}
use Rattle.gf2.specs.Sum.{delta, sum}
use Rattle.gf2.specs.Table.{tabulate}
use Rattle.phase.specs.Coefficients.{l, q}

-- on the parity of wires i and j: 6 where q of w and of u differ by 2, 0 where they are equal (equal signatures leave no other case)
unfoldable pub pair_rest : List ℕ → List ℕ → ℕ → ℕ → ℕ
pair_rest w u i j = 3 * ((q w i j + 3 * q u i j) % 4)

-- 1 where j is another than i, else 0
abbrev pub apart : ℕ → ℕ → ℕ
apart i j = 1 - delta i j

-- on the parity of wire i alone: l of w, less l of u and the rests of the pairs with i
unfoldable pub one_rest : ℕ → List ℕ → List ℕ → ℕ → ℕ
one_rest n w u i = (l w i + 7 * (l u i + sum n (λ j. apart i j * pair_rest w u i j))) % 8

-- by the number of wires: what one wire gets, what two get; all others get 0
unfoldable pub by_wires : ℕ → ℕ → ℕ → ℕ
by_wires zero one two = 0
by_wires (suc zero) one two = one
by_wires (suc (suc zero)) one two = two
by_wires (suc (suc (suc m))) one two = 0

-- the wire after the lowest one of p
abbrev pub next : ℕ → ℕ → ℕ
next n p = lowest n (p - 2 ^ lowest n p)

-- the even rest on p
unfoldable pub rest : ℕ → List ℕ → List ℕ → ℕ → ℕ
rest n w u p = by_wires (ones p) (one_rest n w u (lowest n p)) (pair_rest w u (lowest n p) (next n p))

-- f on the parities of n wires, and 0 from 2 ^ n up
unfoldable pub pad : ℕ → ℕ → (ℕ → ℕ) → List ℕ
pad size n f = tabulate (2 ^ n) f ++ replicate (size - 2 ^ n) 0

-- each member gets 1, and the even rest is added, modulo 8
abbrev pub new_weight : ℕ → List ℕ → List ℕ → ℕ → ℕ
new_weight n w u p = (weight u p + rest n w u p) % 8

unfoldable pub new_weights : ℕ → ℕ → List ℕ → List ℕ → List ℕ
new_weights size n w u = pad size n (new_weight n w u)

-- document 01's shape: each member of the marks has 1, and an even rest is added:
-- 0 or 6 on a parity of two wires, 0, 2, 4 or 6 on one wire, 0 on others, modulo 8
pub record MarksAndRest (n : ℕ) (marks v : List ℕ) : Type 0 where
  pub added : ℕ → ℕ
  pub is : (p : ℕ) → p < 2 ^ n → weight v p ≡ (weight marks p + added p) % 8
  pub on_one : (p : ℕ) → p < 2 ^ n → ones p ≡ 1 → (added p < 8) × (added p % 2 ≡ 0)
  pub on_two : (p : ℕ) → p < 2 ^ n → ones p ≡ 2 → (added p ≡ 0) ⊎ (added p ≡ 6)
  pub on_others : (p : ℕ) → p < 2 ^ n → ones p ≢ 1 → ones p ≢ 2 → added p ≡ 0
