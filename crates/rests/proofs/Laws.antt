-- The page to read: which calls of `new_weights` are accepted, and what its promise means.
use mathlib.Core.List.{List}
use mathlib.Core.Logic.{◌↔◌}
use mathlib.Core.Path.{sym, ◌∙◌, ◌≡◌}
use Prim.Native.Nat.{◌^◌, ℕ, ◌≤◌}
use lib.ListN.{length}
use lib.Pow.{pow_mono}
use Rattle.circuit.proofs.Judging.{call_accepts}
use Rattle.circuit.specs.Faults.{call_reply}
use Rattle.circuit.specs.Limits.{parities, table_bytes}
use Rattle.circuit.specs.OddSet.{odd_set}
use Rattle.circuit.specs.Sound.{SoundMarks, SoundWeights}
use Rattle.circuit.specs.Replies.{Done}
use Rattle.phase.proofs.Laws.{new_weights_odd_set, new_weights_same_phases, new_weights_shape, new_weights_sound, new_weights_unique}
use Rattle.phase.specs.Coefficients.{SamePhases}
use Rattle.phase.specs.NewWeights.{MarksAndRest}
use Rattle.phase.specs.Signature.{SameSignature}
use Rattle.weights.proofs.Ways.{FewWires}
use Rattle.rests.proofs.Ways.{new_weights_passes}
use Rattle.rests.specs.Entry.{NewWeightsOf, new_weights_fault}

-- ---- demand 1: which calls are accepted. Nothing sound is refused, nothing faulty is accepted

pub new_weights_accepts : (n : ℕ) (w marks : List ℕ) (out : ℕ)
    → (call_reply (new_weights_fault n w marks out) ≡ Done)
    ↔ (FewWires n × (out ≡ table_bytes) × (SoundWeights parities n w × SoundMarks parities n marks))
new_weights_accepts n w marks out = call_accepts _ (new_weights_passes n w marks out)

-- ---- what the promise means after Done

-- where the marks have the signature of the weights, the output is sound, has the marks as its odd set and the phases of the weights, and
-- is the only sound table of document 01's shape that does
module _ (n : ℕ) (w marks out out' : List ℕ) (r : NewWeightsOf n w marks out out' Done) (same : SameSignature n marks w) where
  accepted : FewWires n × (length out ≡ table_bytes) × (SoundWeights parities n w × SoundMarks parities n marks)
  accepted = (new_weights_accepts n w marks (length out)).0 (sym r.reply)

  room : 2 ^ n ≤ parities
  room = pow_mono accepted.0.1

  sound : SoundMarks parities n marks
  sound = accepted.2.1

  pub new_left_sound : SoundWeights parities n out'
  new_left_sound = rw r.out_left (new_weights_sound parities n room w marks sound)

  pub new_left_odd_set : odd_set out' ≡ marks
  new_left_odd_set = rw r.out_left (new_weights_odd_set parities n room w marks sound same)

  pub new_left_phases : SamePhases n out' w
  new_left_phases = rw r.out_left (new_weights_same_phases parities n room w marks sound same)

  pub new_left_shape : MarksAndRest n marks out'
  new_left_shape = rw r.out_left (new_weights_shape parities n room w marks sound same)

  pub new_left_unique : (v : List ℕ) → SoundWeights parities n v → MarksAndRest n marks v → SamePhases n v w → v ≡ out'
  new_left_unique v a b d = new_weights_unique parities n room w marks sound v a b d ∙ sym r.out_left
