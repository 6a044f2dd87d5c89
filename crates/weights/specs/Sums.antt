-- The sum behind l, q and c: with i, j and k the same wire it is that of l, with two of them that of q.
use Rattle.std.specs.Prelude.{List, ◌*◌, ◌<◌, ℕ}
use Rattle.circuit.specs.Limits.{max_wires}
use Rattle.gf2.specs.Bit.{bit}
use Rattle.gf2.specs.Table.{weighted_sum}

-- the sum of the weights of parities with i, j and k
abbrev pub sum_with : List ℕ → ℕ → ℕ → ℕ → ℕ
sum_with w i j k = weighted_sum w (λ p. bit p i * bit p j * bit p k)

-- wires that the code takes
pub record WiresBelow (i j k : ℕ) : Type 0 where
  pub i_below : i < max_wires
  pub j_below : j < max_wires
  pub k_below : k < max_wires
