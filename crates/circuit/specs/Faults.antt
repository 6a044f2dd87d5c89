-- Document 01, "Faults": which lists are accepted, and the first fault of one that is not. A fault's number is that of the table;
-- 0 stands for none.
use Rattle.std.specs.Prelude.{List, [], ◌∷◌, ◌≢◌, ◌⊎◌, ◌≡◌, ◌%◌, ◌<◌, suc, zero, ℕ, ◌≤◌, eqb, leb, get_or, length}
use Rattle.circuit.specs.Gate.{Gate, gate, gates_of, kind_of}
use Rattle.circuit.specs.Limits.{gate_bytes, max_list_bytes, max_wires}
use Rattle.circuit.specs.Read.{either}
use Rattle.circuit.specs.Gate.{Kind}
use Rattle.circuit.specs.Gate.{Cnot, Phase, Unknown}
use Rattle.circuit.specs.Replies.{Reply}
use Rattle.circuit.specs.Replies.{Done, Refused}

-- ---- the table's numbers, each once by name

-- wire count 0 or above max_wires
abbrev pub wire_count : ℕ
wire_count = 1

-- list not a multiple of three bytes, or over max_list_bytes
abbrev pub list_length : ℕ
list_length = 2

-- kind outside 1 to last_kind
abbrev pub gate_kind : ℕ
gate_kind = 3

-- a not below n; b not below n in a CNOT, not 0 elsewhere
abbrev pub gate_wire : ℕ
gate_wire = 4

-- CNOT with a = b
abbrev pub same_wire : ℕ
same_wire = 5

-- weights or odd set of another length than theirs, or a byte against its rule
abbrev pub table_rule : ℕ
table_rule = 6

-- rows of another number than theirs, a bit or row beyond n, or not invertible
abbrev pub row_rule : ℕ
row_rule = 7

-- a lent output of another length than it must have, or shorter
abbrev pub lent_output : ℕ
lent_output = 8

-- text line malformed
abbrev pub malformed : ℕ
malformed = 9

-- cells that are no legal move for this odd set, or another number of them
abbrev pub bad_move : ℕ
bad_move = 10

-- any fault of the second of two lists (document 02, 2.1)
abbrev pub second_list : ℕ
second_list = 11

-- ---- accepted lists

-- none of faults 3, 4 and 5
abbrev pub KindWellFormed : ℕ → Kind → ℕ → ℕ → Type 0
KindWellFormed n Cnot a b = (a < n) × (b < n) × (a ≢ b)
KindWellFormed n (Phase v) a b = (a < n) × (b ≡ 0)
KindWellFormed n Unknown a b = ⊥

abbrev pub WellFormed : ℕ → Gate → Type 0
WellFormed n (gate kind a b) = KindWellFormed n (kind_of kind) a b

abbrev pub AllWellFormed : ℕ → List Gate → Type 0
AllWellFormed n [] = Unit {0}
AllWellFormed n (g ∷ gs) = WellFormed n g × AllWellFormed n gs

-- none of faults 1 to 5
pub record Accepted (n : ℕ) (bytes : List ℕ) : Type 0 where
  pub some : 1 ≤ n
  pub few : n ≤ max_wires
  pub whole : length bytes % gate_bytes ≡ 0
  pub short : length bytes ≤ max_list_bytes
  pub formed : AllWellFormed n (gates_of bytes)

-- ---- the faults of one gate, each as the table words it

-- a gate has the fault of that number
abbrev pub KindHas : ℕ → ℕ → Kind → ℕ → ℕ → Type 0
KindHas n f Cnot a b = ((f ≡ gate_wire) × ((n ≤ a) ⊎ (n ≤ b))) ⊎ ((f ≡ same_wire) × (a ≡ b))
KindHas n f (Phase v) a b = (f ≡ gate_wire) × ((n ≤ a) ⊎ (b ≢ 0))
KindHas n f Unknown a b = f ≡ gate_kind

abbrev pub Has : ℕ → ℕ → Gate → Type 0
Has n f (gate kind a b) = KindHas n f (kind_of kind) a b

-- the gate at place i of a list
abbrev pub gate_at : List Gate → ℕ → Gate
gate_at gs i = get_or gs i (gate 0 0 0)

-- gates in order, 3, 4, 5 within a gate: the gates before that place have no fault, and of those that the gate there has,
-- number is the first
pub record FirstFault (n : ℕ) (gs : List Gate) (number place : ℕ) : Type 0 where
  pub inside : place < length gs
  pub before : (i : ℕ) → i < place → WellFormed n (gate_at gs i)
  pub has : Has n number (gate_at gs place)
  pub first : (f : ℕ) → Has n f (gate_at gs place) → number ≤ f

-- ---- the same, computed

-- the first of two faults, in the order of the checks
abbrev pub or_else : ℕ → ℕ → ℕ
or_else zero next = next
or_else (suc fault) next = suc fault

abbrev pub cnot_fault : ℕ → ℕ → ℕ → ℕ
cnot_fault n a b = either (leb n a) gate_wire (either (leb n b) gate_wire (either (eqb a b) same_wire 0))

-- of a gate on one wire
abbrev pub one_wire_fault : ℕ → ℕ → ℕ → ℕ
one_wire_fault n a b = either (leb n a) gate_wire (either (eqb b 0) 0 gate_wire)

abbrev pub kind_fault : ℕ → Kind → ℕ → ℕ → ℕ
kind_fault n Cnot a b = cnot_fault n a b
kind_fault n (Phase v) a b = one_wire_fault n a b
kind_fault n Unknown a b = gate_kind

unfoldable pub gate_fault : ℕ → Gate → ℕ
gate_fault n (gate kind a b) = kind_fault n (kind_of kind) a b

-- a fault found at place i, or what comes after it
abbrev pub refuse : ℕ → ℕ → Reply → Reply
refuse zero i next = next
refuse (suc fault) i next = Refused (suc fault) i

-- the first fault of the gates, the first of which is gate i
unfoldable pub first_fault : ℕ → ℕ → List Gate → Reply
first_fault n i [] = Done
first_fault n i (g ∷ gs) = refuse (gate_fault n g) i (first_fault n (suc i) gs)

-- ---- a call

abbrev pub wires_fault : ℕ → ℕ
wires_fault n = either (eqb n 0) wire_count (either (leb n max_wires) 0 wire_count)

abbrev pub list_fault : ℕ → ℕ
list_fault bytes = either (eqb (bytes % gate_bytes) 0) (either (leb bytes max_list_bytes) 0 list_length) list_length

abbrev pub lent_fault : ℕ → ℕ → ℕ
lent_fault long wanted = either (eqb long wanted) 0 lent_output

-- of a lent output that may be longer than it must be
abbrev pub short_fault : ℕ → ℕ → ℕ
short_fault long wanted = either (leb wanted long) 0 lent_output

-- the first fault of a call that brings a list of so many bytes: 1, 2, then 8 of what it lends
abbrev pub list_call_fault : ℕ → ℕ → ℕ → ℕ
list_call_fault n bytes lent = or_else (wires_fault n) (or_else (list_fault bytes) lent)

-- the reply to such a call, from what goes in alone: 1, 2, 8, then 3, 4, 5 by gate; nothing else is refused
abbrev pub list_reply : ℕ → List ℕ → ℕ → Reply
list_reply n bytes lent = refuse (list_call_fault n (length bytes) lent) 0 (first_fault n 0 (gates_of bytes))

-- a fault of a call, which has place 0, or none
abbrev pub call_reply : ℕ → Reply
call_reply fault = refuse fault 0 Done
