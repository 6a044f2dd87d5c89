-- That no gate of a list has a fault has one proof at most, as what a struct keeps must have.
use Rattle.std.specs.Prelude.{List, [], ◌∷◌, ℕ}
use mathlib.Core.HLevel.{Unit-prop}
use denote.Struct.Props.{props}
use Rattle.circuit.specs.Faults.{AllWellFormed, KindWellFormed, WellFormed}
use Rattle.circuit.specs.Gate.{Cnot, Gate, Kind, Phase, Unknown, gate, kind_of}

kind_prop : (n : ℕ) (k : Kind) (a b : ℕ) → IsProp (KindWellFormed n k a b)
kind_prop n Cnot a b = hlevel props
kind_prop n (Phase v) a b = hlevel props
kind_prop n Unknown a b = hlevel props

gate_prop : (n : ℕ) (g : Gate) → IsProp (WellFormed n g)
gate_prop n (gate kind a b) = kind_prop n (kind_of kind) a b

pub formed_prop : (n : ℕ) (gs : List Gate) → IsProp (AllWellFormed n gs)
formed_prop n [] = Unit-prop
formed_prop n (g ∷ gs) = hlevel (gate_prop n g, formed_prop n gs)
