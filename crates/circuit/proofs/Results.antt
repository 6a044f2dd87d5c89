-- What the results of the code say in document 01's numbers, by cases.
use mathlib.Core.Logic.{◌≢◌}
use mathlib.Core.Path.{refl}
use Prim.Native.Nat.{suc, zero, ℕ}
use native.Mathlib.Omega.{arith}
use Rattle.circuit.specs.Told.{number}
use Rattle.circuit.specs.declared.faults.Fault.{Fault}
use Rattle.circuit.specs.declared.faults.Fault.TheVariants.{BadMove, GateKind, GateWire, LentOutput, ListLength, Malformed}
use Rattle.circuit.specs.declared.faults.Fault.TheVariants.{RowRule, SameWire, SecondList, TableRule, WireCount}
use Rattle.circuit.specs.declared.faults.Refusal.{Refusal}

-- every fault has a number
pub numbered : (f : Fault) → number f ≢ 0
numbered WireCount = omega arith
numbered ListLength = omega arith
numbered GateKind = omega arith
numbered GateWire = omega arith
numbered SameWire = omega arith
numbered TableRule = omega arith
numbered RowRule = omega arith
numbered LentOutput = omega arith
numbered Malformed = omega arith
numbered BadMove = omega arith
numbered SecondList = omega arith

-- so what holds after a reply of any number but 0 holds after a refusal
pub refused_keeps : (P : ℕ → Type 0) → ((f : ℕ) → P (suc f)) → (r : Refusal) → P (number r.fault)
refused_keeps P every r = go (number r.fault) (numbered r.fault)
  where
    go : (f : ℕ) → f ≢ 0 → P f
    go zero h = absurd (h refl)
    go (suc f) h = every f
