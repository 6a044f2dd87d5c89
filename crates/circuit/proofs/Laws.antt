-- The laws of circuits on one page, for lists, replies and buffers as document 01 words them. The proofs are in the modules named.
use mathlib.Core.List.{◌++◌, List, ◌∷◌}
use mathlib.Core.Logic.{◌↔◌, ◌⊎◌}
use mathlib.Core.Path.{ap, refl, sym, ◌∙◌, ◌≡◌}
use Prim.Native.Nat.{◌+◌, ◌<◌, ◌^◌, ℕ, ◌≤◌}
use native.Mathlib.Nat.{zero-add}
use native.Mathlib.Omega.{arith}
use lib.ListN.{get_or}
use Rattle.circuit.proofs.Alike.{not_both, one_of_both}
use Rattle.circuit.proofs.Invertible.{distinct_independent, independent_distinct}
use Rattle.circuit.proofs.Judging.{call_number, first_refused, refused_first, zero_done}
use Rattle.circuit.proofs.OddSet.{odd_set_at_most_t, t_moves_one}
use Rattle.circuit.proofs.ReadRuns.{read_runs}
use Rattle.circuit.proofs.SameRows.{alike_same_rows}
use Rattle.circuit.proofs.Sound.{read_sound}
use Rattle.circuit.specs.Faults.{AllWellFormed, FirstFault, WellFormed, call_reply, first_fault}
use Rattle.circuit.specs.Gate.{Gate, gate, is_t, t_gates}
use Rattle.circuit.specs.Limits.{log_cells, max_gates, max_list_bytes, max_members, max_wires, max_written_gates, move_cells, product_bits}
use Rattle.circuit.specs.Limits.{row_cells, table_bytes, write_bytes}
use Rattle.circuit.specs.OddSet.{member_count, odd_set}
use Rattle.circuit.specs.Read.{read}
use Rattle.circuit.specs.Replies.{number_of}
use Rattle.circuit.specs.Run.{SameAction, ToldApart, run}
use Rattle.circuit.specs.Says.{end_state, says}
use Rattle.circuit.specs.Sound.{SoundReading}
use Rattle.circuit.specs.Replies.{Done, Refused}
use Rattle.gf2.specs.Selection.{Independent}

-- ---- demand 2: nothing in the weights and rows read from a list differs from the list run gate by gate. For every n and N

-- the end state and the phase of every basis state
pub reading_is_running : (N n : ℕ) → n ≤ N → (gs : List Gate) → AllWellFormed n gs → (x : ℕ) → x < 2 ^ n → run gs x ≡ says n (read N n gs) x
reading_is_running = read_runs

-- what reading gives is sound: weights below 8 and none beyond n, rows invertible
pub reading_is_sound : (N n : ℕ) → n ≤ N → (gs : List Gate) → AllWellFormed n gs → SoundReading N n (read N n gs)
reading_is_sound = read_sound

-- invertible rows are those that tell the states apart: independent exactly if no two basis states below 2^n end in the same state
pub independent_exactly : (n : ℕ) (rows : List ℕ) → ((i : ℕ) → get_or rows i 0 < 2 ^ n)
    → Independent n rows ↔ ((x y : ℕ) → x < 2 ^ n → y < 2 ^ n → end_state n rows x ≡ end_state n rows y → x ≡ y)
independent_exactly n rows within = (independent_distinct n rows within, distinct_independent n rows)

-- lists that act alike have the same rows
pub same_action_same_rows : (N n : ℕ) → n ≤ N → (C D : List Gate) → AllWellFormed n C → AllWellFormed n D → SameAction n C D
    → (read N n D).rows ≡ (read N n C).rows
same_action_same_rows = alike_same_rows

-- a basis state tells two lists apart exactly where they do not act alike: any lists
pub told_apart_exactly : (n : ℕ) (C D : List Gate) → ToldApart n C D ↔ (SameAction n C D → ⊥)
told_apart_exactly n C D = (not_both n C D, one_of_both n C D)

-- one T or T dagger put anywhere moves the size of the odd set by exactly one, up or down
pub one_t_moves_one : (N n : ℕ) → n ≤ N → (xs ys : List Gate) (kind a b : ℕ) → AllWellFormed n xs → AllWellFormed n ys
    → WellFormed n (gate kind a b) → is_t kind ≡ 1
    → (member_count (odd_set (read N n (xs ++ gate kind a b ∷ ys)).weights) ≡ member_count (odd_set (read N n (xs ++ ys)).weights) + 1)
    ⊎ (member_count (odd_set (read N n (xs ++ ys)).weights) ≡ member_count (odd_set (read N n (xs ++ gate kind a b ∷ ys)).weights) + 1)
one_t_moves_one = t_moves_one

-- so a list has at least as many T and T dagger gates as its odd set has members
pub odd_set_no_larger : (N n : ℕ) → n ≤ N → (gs : List Gate) → AllWellFormed n gs
    → member_count (odd_set (read N n gs).weights) ≤ t_gates gs
odd_set_no_larger = odd_set_at_most_t

-- ---- demand 1: the fault that a reply tells

-- a gate's fault is the first of the list
pub fault_is_first : (n : ℕ) (gs : List Gate) (number place : ℕ) → first_fault n 0 gs ≡ Refused number place → FirstFault n gs number place
fault_is_first n gs number place e =
    let t = refused_first n 0 gs number place e in
    let p : place ≡ t.0 = omega (arith, t.1) in
    rw p t.2

-- the first fault of a list is the one computed
pub first_is_fault : (n : ℕ) (gs : List Gate) (number place : ℕ) → FirstFault n gs number place → first_fault n 0 gs ≡ Refused number place
first_is_fault n gs number place f = rw (zero-add place) at (first_refused n 0 gs number place f)

-- and a list has only one first fault
pub fault_is_unique : (n : ℕ) (gs : List Gate) (f i g j : ℕ) → FirstFault n gs f i → FirstFault n gs g j → (f ≡ g) × (i ≡ j)
fault_is_unique n gs f i g j a b =
    let e : Refused f (0 + i) ≡ Refused g (0 + j) = sym (first_refused n 0 gs f i a) ∙ first_refused n 0 gs g j b in
    let p : 0 + i ≡ 0 + j = cc in
    (cc, omega arith)

-- number 0 says done, and nothing else does: of every call whose faults have place 0
pub call_reply_number : (f : ℕ) → (number_of (call_reply f) ≡ 0) ↔ (call_reply f ≡ Done)
call_reply_number f = (zero_done (call_reply f) (λ number place. call_number f), λ e. ap number_of e)

-- ---- the numbers that document 01 gives are those that follow from its wires, its gates and the bytes of a gate

pub list_numbers : (max_wires ≡ 8) × (max_gates ≡ 4096) × (max_list_bytes ≡ 12288) × (max_written_gates ≡ 2112) × (write_bytes ≡ 6336)
list_numbers = (refl, refl, refl, refl, refl)

pub table_numbers : (table_bytes ≡ 256) × (row_cells ≡ 8) × (product_bits ≡ 36)
table_numbers = (refl, refl, refl)

pub move_numbers : (max_members ≡ 38) × (move_cells ≡ 40) × (log_cells ≡ 10200)
move_numbers = (refl, refl, refl)
