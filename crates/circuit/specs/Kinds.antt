-- What the code's kinds of gates say in document 01's words.
use Rattle.std.specs.Prelude.{Err, None, Ok, Option, Result, Some, ℕ}
use Rattle.circuit.specs.Gate.{CNOT, Cnot, Kind, Phase, S, S_DAGGER, T, T_DAGGER, Unknown, Z, kind_of}
use Rattle.circuit.specs.declared.gates.GateKind.{GateKind}
use Rattle.circuit.specs.declared.gates.GateKind.TheVariants.{Cnot as AsCnot, T as AsT, S as AsS, Z as AsZ, SDagger as AsSDagger}
use Rattle.circuit.specs.declared.gates.GateKind.TheVariants.{TDagger as AsTDagger}
use Rattle.circuit.specs.declared.gates.UnknownKind.{UnknownKind}

-- the kind byte
abbrev pub kind_byte : GateKind → ℕ
kind_byte AsCnot = CNOT
kind_byte AsT = T
kind_byte AsS = S
kind_byte AsZ = Z
kind_byte AsSDagger = S_DAGGER
kind_byte AsTDagger = T_DAGGER

-- what a kind says
abbrev pub kind_says : GateKind → Kind
kind_says kind = kind_of (kind_byte kind)

-- what a byte says that is a kind, or is none
abbrev pub kind_said : Result GateKind UnknownKind → Kind
kind_said (Ok kind) = kind_says kind
kind_said (Err unknown) = Unknown

-- what a gate says that adds so much to the phase, or is a CNOT
abbrev pub phase_said : Option ℕ → Kind
phase_said None = Cnot
phase_said (Some v) = Phase v
