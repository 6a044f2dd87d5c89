-- Document 01, "Gates and what they do": running a list on a basis state. This is the meaning of a circuit;
-- everything else is judged by it.
use Rattle.std.specs.Prelude.{List, [], ◌∷◌, ◌≢◌, ◌≡◌, ◌%◌, ◌*◌, ◌+◌, ◌<◌, ◌^◌, ℕ}
use Rattle.std.specs.Int.Bits.{bit_xor}
use Rattle.gf2.specs.Bit.{bit}
use Rattle.circuit.specs.Gate.{Gate, gate, kind_of}
use Rattle.circuit.specs.Gate.{Kind}
use Rattle.circuit.specs.Gate.{Cnot, Phase, Unknown}

-- a basis state, bit i for wire i, and the phase in eighths of a turn, counted modulo 8
pub record State : Type 0 where
  pub bits : ℕ
  pub phase : ℕ

-- bit b of x becomes bit b XOR bit a
abbrev pub flip_target : ℕ → ℕ → ℕ → ℕ
flip_target a b x = bit_xor x (bit x a * 2 ^ b)

-- a CNOT has control a and target b; a phase gate adds v to the phase if bit a is set
unfoldable pub run_kind : Kind → ℕ → ℕ → State → State
run_kind Cnot a b s = record { bits = flip_target a b s.bits; phase = s.phase }
run_kind (Phase v) a b s = record { bits = s.bits; phase = (s.phase + v * bit s.bits a) % 8 }
run_kind Unknown a b s = s

abbrev pub run_gate : Gate → State → State
run_gate (gate kind a b) s = run_kind (kind_of kind) a b s

-- the gates in order
unfoldable pub run_from : List Gate → State → State
run_from [] s = s
run_from (g ∷ gs) s = run_from gs (run_gate g s)

-- running starts at x with phase 0
abbrev pub run : List Gate → ℕ → State
run gs x = run_from gs (record { bits = x; phase = 0 })

-- each of the 2^n basis states goes to the same state with the same phase modulo 8
abbrev pub SameAction : ℕ → List Gate → List Gate → Type 0
SameAction n C D = (x : ℕ) → x < 2 ^ n → run D x ≡ run C x

-- one of them tells the lists apart: it goes to another state, or has another phase
pub record ToldApart (n : ℕ) (C D : List Gate) : Type 0 where
  pub state : ℕ
  pub below : state < 2 ^ n
  pub differs : run D state ≢ run C state
