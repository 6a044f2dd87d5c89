-- The laws of phases on one page, for every n. `size` is the number of weights.
-- The definitions are in specs/, the proofs in the modules named.
use mathlib.Core.List.{List}
use mathlib.Core.Logic.{◌↔◌}
use mathlib.Core.Path.{◌≡◌, refl, sym}
use Prim.Native.Nat.{◌<◌, ◌^◌, ℕ, ◌≤◌}
use lib.ListN.{length}
use Rattle.circuit.specs.Faults.{AllWellFormed}
use Rattle.circuit.specs.Gate.{Gate}
use Rattle.circuit.specs.OddSet.{odd_set}
use Rattle.circuit.specs.Read.{read}
use Rattle.circuit.specs.Run.{SameAction}
use Rattle.circuit.specs.Says.{phase_at}
use Rattle.circuit.specs.Sound.{SoundMarks, SoundWeights}
use Rattle.phase.proofs.ActsAlike.{alike_said, said_alike}
use Rattle.phase.proofs.ByCoefficients.{phase_by_coefficients, same_phases}
use Rattle.phase.proofs.Converse.{coefficients_back, phases_iff}
use Rattle.phase.proofs.Lists.{marks_weights, odd_sound}
use Rattle.phase.proofs.NewWeights.{even_shape, new_holds, new_odd_set, new_phases, new_shape, new_sound, own_even}
use Rattle.phase.proofs.Signature.{odd_set-sums, signature_iff}
use Rattle.phase.proofs.Sums.{SameSums, signature_sums}
use Rattle.phase.proofs.Unique.{added_is, new_unique}
use Rattle.phase.specs.Coefficients.{SameAtThree, SameCoefficients, SamePhases, SaysSame, by_coefficients}
use Rattle.phase.specs.NewWeights.{MarksAndRest, new_weights, rest}
use Rattle.phase.specs.Signature.{EvenApart, SameSignature}

-- (a) the phase is the sum of l, 2 q and 4 c over the wires, pairs and triples set in x, modulo 8: of every list, at every x
pub phase_is_by_coefficients : (n : ℕ) (w : List ℕ) (x : ℕ) → phase_at n w x ≡ by_coefficients n w x
phase_is_by_coefficients = phase_by_coefficients

-- (b) equal phases on all states, exactly where l, q and c are equal
pub same_phases_same_coefficients : (n : ℕ) (v w : List ℕ) → SamePhases n v w ↔ SameCoefficients n v w
same_phases_same_coefficients = phases_iff

-- states with one, two or three wires set suffice to tell two weight tables apart
pub three_wires_suffice : (n : ℕ) (v w : List ℕ) → SameAtThree n v w → SamePhases n v w
three_wires_suffice n v w s x h = same_phases n v w (coefficients_back n v w s) x

-- two lists act alike exactly where their readings have the same rows, l, q and c: no state has to be tried (document 02, 2.1)
pub acts_alike_exactly : (N n : ℕ) → n ≤ N → (C D : List Gate) → AllWellFormed n C → AllWellFormed n D
    → SameAction n C D ↔ SaysSame n (read N n D) (read N n C)
acts_alike_exactly N n fit C D f_c f_d = (alike_said N n fit C D f_c f_d, said_alike N n fit C D f_c f_d)

-- the odd set has the signature of its weights
pub odd_set_has_signature : (n : ℕ) (w : List ℕ) → SameSignature n (odd_set w) w
odd_set_has_signature n w = (signature_sums n (odd_set w) w).1 (odd_set-sums n w)

-- and is sound where they are
pub odd_set_is_sound : (size n : ℕ) (w : List ℕ) → SoundWeights size n w → SoundMarks size n (odd_set w)
odd_set_is_sound = odd_sound

-- new weights have a place for each parity of n wires
pub new_weights_hold : (size n : ℕ) (w marks : List ℕ) → 2 ^ n ≤ length (new_weights size n w marks)
new_weights_hold = new_holds

module _ (size n : ℕ) (room : 2 ^ n ≤ size) where
  -- (c) equal signature, exactly where the phases differ by what even weights alone can make
  pub same_signature_even_apart : (v w : List ℕ) → SoundWeights size n v → SoundWeights size n w
      → SameSignature n v w ↔ EvenApart size n v w
  same_signature_even_apart v w sv sw =
      let a = signature_sums n v w in
      let b = signature_iff size n room v w sv sw in
      (λ s. b.0 (a.0 s), λ e. a.1 (b.1 e))

  -- the new weights for marks
  module _ (w marks : List ℕ) (sound : SoundMarks size n marks) where
    pub new_weights_sound : SoundWeights size n (new_weights size n w marks)
    new_weights_sound = new_sound size n w marks room sound.none

    -- (d) where the marks have the signature of w
    module _ (same : SameSignature n marks w) where
      sums : SameSums n marks w
      sums = (signature_sums n marks w).0 same

      pub new_weights_odd_set : odd_set (new_weights size n w marks) ≡ marks
      new_weights_odd_set = new_odd_set size n room w marks sound sums

      pub new_weights_same_phases : SamePhases n (new_weights size n w marks) w
      new_weights_same_phases = new_phases size n room w marks (marks_weights size n marks sound) sums

      pub new_weights_shape : MarksAndRest n marks (new_weights size n w marks)
      new_weights_shape = new_shape size n room w marks sound sums

    -- (e) this rest is unique: whatever even rest of document 01's shape is added to the marks so that the phases are those of w, it is
    -- `rest` at every parity
    pub rest_unique : (v : List ℕ) → SoundWeights size n v → (s : MarksAndRest n marks v) → SamePhases n v w
        → (p : ℕ) → p < 2 ^ n → s.added p ≡ rest n w marks p
    rest_unique v = added_is size n room w marks v (marks_weights size n marks sound)

    -- so the sound weights of that shape with the phases of w are these
    pub new_weights_unique : (v : List ℕ) → SoundWeights size n v → MarksAndRest n marks v → SamePhases n v w
        → v ≡ new_weights size n w marks
    new_weights_unique v = new_unique size n room w marks v (marks_weights size n marks sound)

    -- (f) where the marks are the odd set of the new weights, the new weights are their own: found once more from them, nothing moves
    -- (document 02, 2.2)
    pub new_weights_again : odd_set (new_weights size n w marks) ≡ marks
        → new_weights size n (new_weights size n w marks) marks ≡ new_weights size n w marks
    new_weights_again own =
        let new : List ℕ = new_weights size n w marks in
        let shape : MarksAndRest n marks new = even_shape size n w marks (own_even size n w marks sound.bits own) in
        sym (new_unique size n room new marks new (marks_weights size n marks sound) new_weights_sound shape (λ x h. refl))
