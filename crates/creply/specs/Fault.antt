-- The fault of a reply as C has it.
use Rattle.std.specs.Prelude.{Result, ◌≡◌, ℕ}
use Rattle.circuit.specs.Replies.{number_of, place_of}
use Rattle.circuit.specs.Told.{told}
use Rattle.circuit.specs.declared.faults.Refusal.{Refusal}

-- these are the number of the fault and its place, both 0 where there is none
abbrev pub FaultInC : {A : Type 0} → Result A Refusal → ℕ → ℕ → Type 0
FaultInC reply number place = (number ≡ number_of (told reply)) × (place ≡ place_of (told reply))
