-- No fault, exactly where a call brings and lends what it must.
use mathlib.Core.List.{List}
use mathlib.Core.Logic.{◌↔◌}
use mathlib.Core.Path.{◌≡◌}
use Prim.Native.Nat.{ℕ}
use Rattle.circuit.proofs.Judging.{or_pass, or_well}
use Rattle.circuit.proofs.TableRule.{marks_sound}
use Rattle.circuit.specs.Limits.{parities, table_bytes}
use Rattle.circuit.specs.Sound.{SoundMarks, SoundWeights}
use Rattle.circuit.specs.TableFaults.{marks_fault}
use Rattle.weights.proofs.Ways.{FewWires, odd_set_passes}
use Rattle.weights.specs.Entry.{odd_set_fault}
use Rattle.rests.specs.Entry.{new_weights_fault}

pub new_weights_passes : (n : ℕ) (w marks : List ℕ) (out : ℕ)
    → (new_weights_fault n w marks out ≡ 0) ↔ (FewWires n × (out ≡ table_bytes) × (SoundWeights parities n w × SoundMarks parities n marks))
new_weights_passes n w marks out = (
  λ e. let a = or_pass (odd_set_fault n w out) (marks_fault n marks) e in
      let b = (odd_set_passes n w out).0 a.0 in
      (b.0, b.1, (b.2, (marks_sound parities n marks).0 a.1)),
  λ s. or_well _ _ ((odd_set_passes n w out).1 (s.0, s.1, s.2.0)) ((marks_sound parities n marks).1 s.2.1),
)
