-- What the results of the code say in document 01's numbers.
use Rattle.std.specs.Prelude.{Err, Ok, Result, ℕ}
use Rattle.circuit.specs.Faults.{bad_move, gate_kind, gate_wire, lent_output, list_length, malformed, row_rule, same_wire, second_list}
use Rattle.circuit.specs.Faults.{table_rule, wire_count}
use Rattle.circuit.specs.Replies.{Done, Refused, Reply}
use Rattle.circuit.specs.declared.faults.Fault.{Fault}
use Rattle.circuit.specs.declared.faults.Fault.TheVariants.{BadMove, GateKind, GateWire, LentOutput, ListLength, Malformed}
use Rattle.circuit.specs.declared.faults.Fault.TheVariants.{RowRule, SameWire, SecondList, TableRule, WireCount}
use Rattle.circuit.specs.declared.faults.Refusal.{Refusal}

-- the number of a fault
abbrev pub number : Fault → ℕ
number WireCount = wire_count
number ListLength = list_length
number GateKind = gate_kind
number GateWire = gate_wire
number SameWire = same_wire
number TableRule = table_rule
number RowRule = row_rule
number LentOutput = lent_output
number Malformed = malformed
number BadMove = bad_move
number SecondList = second_list

-- the number of the fault that a check finds, 0 for none
abbrev pub fault_told : {A : Type 0} → Result A Fault → ℕ
fault_told (Ok x) = 0
fault_told (Err fault) = number fault

-- the reply of a call: done, or the number and the place of its fault
abbrev pub told : {A : Type 0} → Result A Refusal → Reply
told (Ok x) = Done
told (Err r) = Refused (number r.fault) r.place
