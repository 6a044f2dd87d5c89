-- What no fault in either list means for the entry `compare`, and what is decided of the readings.
use mathlib.Core.Bool.{Bool}
use mathlib.Core.List.{List, [], ◌∷◌}
use lib.ListN.{get_or}
use mathlib.Core.Path.{ap, refl, sym, ◌∙◌, ◌≡◌}
use Rattle.std.specs.Prelude.{Ok}
use Prim.Native.Nat.{ℕ, ◌≤◌}
use native.Mathlib.Omega.{arith}
use Rattle.circuit.proofs.Judging.{list_done, refused_not_done}
use Rattle.circuit.proofs.Laws.{reading_is_sound, told_apart_exactly}
use Rattle.circuit.specs.Faults.{Accepted, AllWellFormed, list_reply}
use Rattle.circuit.specs.Gate.{gates_of}
use Rattle.circuit.specs.Limits.{max_wires}
use Rattle.circuit.specs.Run.{SameAction}
use Rattle.circuit.specs.Sound.{SoundReading}
use Rattle.circuit.specs.Replies.{Reply}
use Rattle.circuit.specs.Replies as replies
use Rattle.circuit.specs.Told.{number}
use Rattle.circuit.specs.declared.faults.Fault.{Fault}
use Rattle.circuit.specs.declared.faults.Fault.TheVariants.{BadMove, GateKind, GateWire, LentOutput, ListLength, Malformed}
use Rattle.circuit.specs.declared.faults.Fault.TheVariants.{RowRule, SameWire, SecondList, TableRule, WireCount}
use Rattle.circuit.specs.declared.faults.Refusal.{Refusal}
use Rattle.gf2.proofs.Answers.{decides_as}
use Rattle.gf2.specs.Tests.{Decides}
use Rattle.phase.proofs.Laws.{acts_alike_exactly}
use Rattle.phase.specs.Coefficients.{SaysSame}
use Rattle.reader.specs.Entry.{ReadAll, reading_of}
use Rattle.reader.specs.declared.reading.ListRead.{ListRead}
use Rattle.compare.specs.Entry.{ComparesLists, and_then, as_second, compare_reply}
use Rattle.compare.specs.declared.Compared.TheVariants.{Differ}

-- ---- replies in a row

and_then_done : (a b : Reply) → and_then a b ≡ replies.Done → (a ≡ replies.Done) × (b ≡ replies.Done)
and_then_done replies.Done b e = (refl, e)
and_then_done (replies.Refused number place) b e = absurd (refused_not_done number place e)

as_second_done : (a : Reply) → as_second a ≡ replies.Done → a ≡ replies.Done
as_second_done replies.Done e = refl
as_second_done (replies.Refused number place) e = absurd (refused_not_done _ place e)

-- no fault is found exactly in lists that are both accepted
pub both_accepted : (n : ℕ) (first second : List ℕ) → compare_reply n first second ≡ replies.Done → Accepted n first × Accepted n second
both_accepted n first second e =
    let t = and_then_done (list_reply n first 0) (as_second (list_reply n second 0)) e in
    ((list_done n first 0 t.0).0, (list_done n second 0 (as_second_done (list_reply n second 0) t.1)).0)

-- ---- a refusal is told by its number and place

-- each under its number
faults : List Fault
faults =
    WireCount ∷ WireCount ∷ ListLength ∷ GateKind ∷ GateWire ∷ SameWire ∷ TableRule ∷ RowRule ∷ LentOutput ∷ Malformed ∷ BadMove
    ∷ SecondList ∷ []

at_number : (fault : Fault) → get_or faults (number fault) WireCount ≡ fault
unfolding faults
at_number WireCount = refl
at_number ListLength = refl
at_number GateKind = refl
at_number GateWire = refl
at_number SameWire = refl
at_number TableRule = refl
at_number RowRule = refl
at_number LentOutput = refl
at_number Malformed = refl
at_number BadMove = refl
at_number SecondList = refl

pub one_refusal : (a b : Refusal) → replies.Refused (number a.fault) a.place ≡ replies.Refused (number b.fault) b.place → a ≡ b
one_refusal a b e =
    let same : number a.fault ≡ number b.fault = cc in
    let place : a.place ≡ b.place = cc in
    let fault : a.fault ≡ b.fault = sym (at_number a.fault) ∙ ap (λ (k : ℕ). get_or faults k WireCount) same ∙ at_number b.fault in
    λ i. record { fault = fault i; place = place i }

-- ---- both lists read

pub read_is_sound : {n : ℕ} {bytes : List ℕ} {t : ListRead} → n ≤ max_wires → AllWellFormed n (gates_of bytes) → ReadAll n bytes t
    → SoundReading max_wires n (reading_of t)
read_is_sound {n} {bytes} few formed r = rw r.reads (reading_is_sound max_wires n few (gates_of bytes) formed)

-- what is decided of the readings is decided of the lists
pub alike_by_reading : {n : ℕ} {first second : List ℕ} {a b : ListRead} {r : Bool} → n ≤ max_wires → AllWellFormed n (gates_of first)
    → AllWellFormed n (gates_of second) → ReadAll n first a → ReadAll n second b → Decides r (SaysSame n (reading_of b) (reading_of a))
    → Decides r (SameAction n (gates_of first) (gates_of second))
alike_by_reading {n} {first} {second} few formed_first formed_second f s d =
    let e = acts_alike_exactly max_wires n few (gates_of first) (gates_of second) formed_first formed_second in
    decides_as e.1 e.0 (rw (s.reads, f.reads) at d)

-- ---- the ways out

module _ {n : ℕ} {first second : List ℕ} (clear : compare_reply n first second ≡ replies.Done) where
  pub compare_differ : (SameAction n (gates_of first) (gates_of second) → ⊥) → ComparesLists n first second (Ok Differ)
  compare_differ not =
      record {
        reply = sym clear;
        yes = λ done. (λ e. absurd (omega arith), λ alike. absurd (not alike));
        no = λ done. (λ e. (told_apart_exactly n (gates_of first) (gates_of second)).1 not, λ t. refl);
      }
