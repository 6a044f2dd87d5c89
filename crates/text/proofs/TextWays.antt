-- One law for each way out of the entry `read_text`, by what its judge found: the reply, and the lent gates as it says.
use mathlib.Core.List.{List}
use mathlib.Core.Path.{◌∙◌, ◌≡◌, ap, ap₂, refl, sym}
use Prim.Native.Nat.{◌/◌, ◌<◌, ◌≤◌, suc, zero, ℕ}
use native.Mathlib.Omega.{arith}
use lib.Dec.{eqb}
use lib.ListN.{length}
use Rattle.std.specs.Prelude.{Err, Ok, Result, cond}
use Rattle.std.proofs.lemmas.List.{take_rest}
use Rattle.circuit.proofs.Judging.{refuse_done, refused_not_done, short_pass}
use Rattle.circuit.specs.Faults.{bad_move, call_reply, gate_kind, gate_wire, lent_output, list_length, malformed, refuse, row_rule}
use Rattle.circuit.specs.Faults.{same_wire, short_fault, table_rule, wire_count}
use Rattle.circuit.specs.Limits.{gate_bytes, max_list_bytes}
use Rattle.circuit.specs.Replies.{Done, Refused, Reply}
use Rattle.circuit.specs.Told.{number, told}
use Rattle.circuit.specs.declared.faults.Fault.{Fault}
use Rattle.circuit.specs.declared.faults.Fault.TheVariants.{BadMove, GateKind, GateWire, LentOutput, ListLength, Malformed, RowRule}
use Rattle.circuit.specs.declared.faults.Fault.TheVariants.{SameWire, SecondList, TableRule, WireCount}
use Rattle.circuit.specs.declared.faults.Refusal.{Refusal}
use Rattle.text.proofs.Storing.{bytes_from}
use Rattle.text.proofs.TextFaults.{gate_lines_in, gates_done, one_formed_done, one_long, read_circuit}
use Rattle.text.specs.Entry.{ReadText, count_of, fault_said, gates_said, read_into, read_text_fault, wires_of, wires_said}
use Rattle.text.specs.Limits.{wires_digits, wires_line_bytes}
use Rattle.text.specs.Lines.{byte_at, lines_decoded, lines_of}
use Rattle.text.specs.Placed.{Stores}
use Rattle.text.specs.Text.{Text, circuit, faulty, gates_fault, lines_fault, lines_say, read_text, unless_refused}
use Rattle.text.specs.declared.Circuit.{Circuit}

-- a text refused for the fault of the call, else for its own, is refused for the first of them
joined : (f : ℕ) (found : Reply) (x : Text) → unless_refused (call_reply f) (unless_refused found x) ≡ unless_refused (refuse f 0 found) x
joined zero found x = refl
joined (suc f) found x = refl

-- so what the call reads goes by what its judge finds
by_fault : (lent : ℕ) (t : List ℕ) → read_into lent t ≡ unless_refused (read_text_fault lent t) (lines_say (lines_of t))
unfolding read_text
by_fault lent t = joined (short_fault lent max_list_bytes) (lines_fault (lines_of t)) (lines_say (lines_of t))

module _ (t g : List ℕ) where
  pub text_refused : {refusal : Refusal} → Refused (number refusal.fault) refusal.place ≡ read_text_fault (length g) t
      → ReadText t g g (Err refusal)
  text_refused {refusal} judged =
      let r : read_into (length g) t ≡ faulty (number refusal.fault) refusal.place =
      by_fault (length g) t ∙ ap (λ (v : Reply). unless_refused v (lines_say (lines_of t))) (sym judged) in
      record { reply = rw r; wires = rw r; count = rw r; gates_left = rw r }

  module _ (judged : Done ≡ read_text_fault (length g) t) where
    passed : (short_fault (length g) max_list_bytes ≡ 0) × (lines_fault (lines_of t) ≡ Done)
    passed = refuse_done (short_fault (length g) max_list_bytes) 0 (lines_fault (lines_of t)) (sym judged)

    -- what reading n and storing ask
    pub one_there : wires_digits < length t
    one_there = one_long t (one_formed_done t passed.1)

    pub may_store : (max_list_bytes ≤ length g) × (gates_fault 0 (lines_of (gate_lines_in t)) ≡ Done)
    may_store =
        (short_pass (length g) max_list_bytes passed.0, rw (take_rest t wires_line_bytes) (gates_done t passed.1))

    pub text_read : {n m : ℕ} {g' : List ℕ} → n ≡ byte_at t 0 → Stores g (lines_decoded (lines_of (gate_lines_in t))) g' m
        → ReadText t g g' (Ok (record { wires = n; gates = m }))
    text_read {n} {m} {g'} h stores =
        let s = rw (take_rest t wires_line_bytes) at stores in
        let r = ap (λ (f : ℕ). unless_refused (call_reply f) (read_text t)) passed.0 ∙ read_circuit t passed.1 in
        let k : m ≡ length (bytes_from t wires_line_bytes) / gate_bytes = omega (arith, s.counted) in
        record { reply = rw r; wires = rw (r, h); count = rw (r, k); gates_left = rw r s.stored }

-- ---- the reply whole

-- the fault of that number
abbrev pub fault_of : ℕ → Fault
fault_of f =
    cond (eqb f wire_count) WireCount
    (cond (eqb f list_length) ListLength
    (cond (eqb f gate_kind) GateKind
    (cond (eqb f gate_wire) GateWire
    (cond (eqb f same_wire) SameWire
    (cond (eqb f table_rule) TableRule
    (cond (eqb f row_rule) RowRule
    (cond (eqb f lent_output) LentOutput
    (cond (eqb f malformed) Malformed
    (cond (eqb f bad_move) BadMove
    SecondList)))))))))

pub of_number : (f : Fault) → fault_of (number f) ≡ f
of_number WireCount = refl
of_number ListLength = refl
of_number GateKind = refl
of_number GateWire = refl
of_number SameWire = refl
of_number TableRule = refl
of_number RowRule = refl
of_number LentOutput = refl
of_number Malformed = refl
of_number BadMove = refl
of_number SecondList = refl

-- the wire count and the number of gates, or the fault and its place
abbrev pub reply_of : Text → Result Circuit Refusal
reply_of (circuit n bytes) = Ok (record { wires = n; gates = length bytes / gate_bytes })
reply_of (faulty f place) = Err (record { fault = fault_of f; place = place })

pub reply_is : {t g g' : List ℕ} {r : Result Circuit Refusal} → ReadText t g g' r → r ≡ reply_of (read_into (length g) t)
reply_is {t} {g} {g'} {r} p = go r (read_into (length g) t) p.reply p.wires p.count
  where
    go : (r : Result Circuit Refusal) (x : Text) → told r ≡ fault_said x → wires_of r ≡ wires_said x → count_of r ≡ gates_said x
        → r ≡ reply_of x
    go (Ok c) (circuit k bytes) e a b = ap₂ (λ (n m : ℕ). Ok (record { wires = n; gates = m })) a b
    go (Ok c) (faulty f q) e a b = absurd (refused_not_done f q (sym e))
    go (Err x) (circuit k bytes) e a b = absurd (refused_not_done (number x.fault) x.place e)
    go (Err x) (faulty h p) e a b =
        let s : number x.fault ≡ h = cc in
        let u : x.place ≡ p = cc in
        ap₂ (λ (f : Fault) (q : ℕ). Err (record { fault = f; place = q })) (sym (of_number x.fault) ∙ ap fault_of s) u
