-- The laws of the entries on one page: which calls each accepts, and what its promise means. The proofs are in the modules named.
use mathlib.Core.List.{List}
use mathlib.Core.Logic.{◌↔◌}
use mathlib.Core.Path.{subst, sym, ◌≡◌}
use Prim.Native.Nat.{◌*◌, ◌+◌, ◌<◌, ℕ, ◌≤◌}
use lib.ListN.{get_or, length}
use Rattle.circuit.proofs.Judging.{call_accepts}
use Rattle.circuit.proofs.TableRule.{marks_sound, weights_sound}
use Rattle.circuit.specs.Faults.{call_reply}
use Rattle.circuit.specs.Limits.{max_wires, pair_bytes, parities, table_bytes, triple_bytes}
use Rattle.circuit.specs.Sound.{SoundMarks, SoundWeights}
use Rattle.circuit.specs.TableFaults.{marks_fault, weights_fault}
use Rattle.circuit.specs.Replies.{Done}
use Rattle.phase.proofs.Laws.{odd_set_has_signature, odd_set_is_sound}
use Rattle.phase.specs.Coefficients.{c, l, q}
use Rattle.phase.specs.Signature.{SameSignature}
use Rattle.weights.proofs.Places.{c_place, l_place, q_place}
use Rattle.weights.proofs.Ways.{FewWires, coefficients_passes, odd_set_passes}
use Rattle.weights.specs.Entry.{CoefficientsOf, OddSetOf, coefficients_fault, odd_set_fault}

-- ---- fault 6, exactly where weights or marks are not sound

pub no_fault_sound_weights : (n : ℕ) (w : List ℕ) → (weights_fault n w ≡ 0) ↔ SoundWeights parities n w
no_fault_sound_weights = weights_sound parities

pub no_fault_sound_marks : (n : ℕ) (marks : List ℕ) → (marks_fault n marks ≡ 0) ↔ SoundMarks parities n marks
no_fault_sound_marks = marks_sound parities

-- ---- demand 1: which calls are accepted. Nothing sound is refused, nothing faulty is accepted

pub odd_set_accepts : (n : ℕ) (w : List ℕ) (marks : ℕ)
    → (call_reply (odd_set_fault n w marks) ≡ Done) ↔ (FewWires n × (marks ≡ table_bytes) × SoundWeights parities n w)
odd_set_accepts n w marks = call_accepts _ (odd_set_passes n w marks)

pub coefficients_accepts : (n : ℕ) (w : List ℕ) (ls qs cs : ℕ)
    → (call_reply (coefficients_fault n w ls qs cs) ≡ Done)
    ↔ (FewWires n × ((ls ≡ max_wires) × (qs ≡ pair_bytes) × (cs ≡ triple_bytes)) × SoundWeights parities n w)
coefficients_accepts n w ls qs cs = call_accepts _ (coefficients_passes n w ls qs cs)

-- ---- what the promises mean after Done

-- the marks are a sound odd set, with the signature of the weights
module _ (n : ℕ) (w marks marks' : List ℕ) (r : OddSetOf n w marks marks' Done) where
  sound_weights : SoundWeights parities n w
  sound_weights = ((odd_set_accepts n w (length marks)).0 (sym r.reply)).2

  pub odd_set_left_sound : SoundMarks parities n marks'
  odd_set_left_sound = subst (λ (m : List ℕ). SoundMarks parities n m) (sym r.marks_left) (odd_set_is_sound parities n w sound_weights)

  pub odd_set_left_signature : SameSignature n marks' w
  odd_set_left_signature = subst (λ (m : List ℕ). SameSignature n m w) (sym r.marks_left) (odd_set_has_signature n w)

-- each coefficient stands at its place
module _ (n : ℕ) (w ls qs cs ls' qs' cs' : List ℕ) (r : CoefficientsOf n w ls qs cs ls' qs' cs' Done) where
  few : n ≤ max_wires
  few = ((coefficients_accepts n w (length ls) (length qs) (length cs)).0 (sym r.reply)).0.1

  pub l_left_at : (i : ℕ) → i < n → get_or ls' i 0 ≡ l w i
  l_left_at i h = rw r.l_left (l_place max_wires n w few i h)

  pub q_left_at : (i j : ℕ) → i < j → j < n → get_or qs' (max_wires * j + i) 0 ≡ q w i j
  q_left_at i j h g = rw r.q_left (q_place max_wires n w few i j h g)

  pub c_left_at : (i j k : ℕ) → i < j → j < k → k < n → get_or cs' (pair_bytes * k + (max_wires * j + i)) 0 ≡ c w i j k
  c_left_at i j k h g f = rw r.c_left (c_place max_wires n w few i j k h g f)
