-- The entries `odd_set` and `coefficients`: the reply of each and what it leaves in the lent buffers, for sound and faulty arguments alike.
use Rattle.std.specs.Prelude.{List, ◌≡◌, ℕ, length}
use Rattle.circuit.specs.Faults.{call_reply, lent_fault, or_else}
use Rattle.circuit.specs.Limits.{max_wires, pair_bytes, table_bytes, triple_bytes}
use Rattle.circuit.specs.OddSet.{odd_set}
use Rattle.circuit.specs.Replies.{after, number_of}
use Rattle.circuit.specs.TableFaults.{call_fault, weights_fault}
use Rattle.circuit.specs.Replies.{Reply}
use Rattle.weights.specs.Lists.{c_list, l_list, q_list}

-- ---- odd_set

-- 1, 8, 6, by the weights and the length of the marks lent
abbrev pub odd_set_fault : ℕ → List ℕ → ℕ → ℕ
odd_set_fault n w marks = call_fault n (lent_fault marks table_bytes) (weights_fault n w)

-- `odd_set`, called with these weights and marks, replies r and leaves marks'
pub record OddSetOf (n : ℕ) (weights marks marks' : List ℕ) (r : Reply) : Type 0 where
  pub reply : r ≡ call_reply (odd_set_fault n weights (length marks))
  pub marks_left : marks' ≡ after (number_of r) (odd_set weights) marks

-- ---- coefficients

-- 8, by the lengths of the lists lent
abbrev pub lists_fault : ℕ → ℕ → ℕ → ℕ
lists_fault l q c = or_else (lent_fault l max_wires) (or_else (lent_fault q pair_bytes) (lent_fault c triple_bytes))

-- 1, 8, 6, by the weights and those lengths
abbrev pub coefficients_fault : ℕ → List ℕ → ℕ → ℕ → ℕ → ℕ
coefficients_fault n w l q c = call_fault n (lists_fault l q c) (weights_fault n w)

-- `coefficients`, called with these weights and lists, replies r and leaves l', q' and c'
pub record CoefficientsOf (n : ℕ) (weights l q c l' q' c' : List ℕ) (r : Reply) : Type 0 where
  pub reply : r ≡ call_reply (coefficients_fault n weights (length l) (length q) (length c))
  pub l_left : l' ≡ after (number_of r) (l_list max_wires n weights) l
  pub q_left : q' ≡ after (number_of r) (q_list max_wires n weights) q
  pub c_left : c' ≡ after (number_of r) (c_list max_wires n weights) c
