-- The entry `new_weights`: its reply and what it leaves in the lent output, for sound and faulty arguments alike.
use Rattle.std.specs.Prelude.{List, ◌≡◌, ℕ, length}
use Rattle.circuit.specs.Faults.{call_reply, lent_fault, or_else}
use Rattle.circuit.specs.Limits.{parities, table_bytes}
use Rattle.circuit.specs.Replies.{after, number_of}
use Rattle.circuit.specs.TableFaults.{call_fault, marks_fault, weights_fault}
use Rattle.circuit.specs.Replies.{Reply}
use Rattle.phase.specs.NewWeights.{new_weights}

-- 1, 8, 6, by the weights, the marks and the length of the output lent
abbrev pub new_weights_fault : ℕ → List ℕ → List ℕ → ℕ → ℕ
new_weights_fault n w marks out = or_else (call_fault n (lent_fault out table_bytes) (weights_fault n w)) (marks_fault n marks)

-- `new_weights`, called with these weights, marks and output, replies r and leaves out'
pub record NewWeightsOf (n : ℕ) (weights marks out out' : List ℕ) (r : Reply) : Type 0 where
  pub reply : r ≡ call_reply (new_weights_fault n weights marks (length out))
  pub out_left : out' ≡ after (number_of r) (new_weights parities n weights marks) out
