-- The page to read: which texts are circuits, which fault any other has, and what the promise of `read_text` means.
use mathlib.Core.Bool.{false}
use mathlib.Core.List.{List, [], ◌∷◌, ◌++◌}
use mathlib.Core.Logic.{◌⊎◌, inl, inr}
use mathlib.Core.Path.{◌∙◌, ◌≡◌, ap, ap₂, refl, subst, sym}
use Prim.Native.Nat.{◌%◌, ◌*◌, ◌+◌, ◌/◌, ◌<◌, ◌≤◌, ℕ}
use native.Mathlib.Decide.{dec_le}
use native.Mathlib.Omega.{arith}
use lib.ListN.{drop, length, length-append, length-take, take}
use lib.Seq.{take-append_seam}
use borrow.Author.Tests.{eq-eqb, le-leb, lt-leb, ne_eqb}
use Rattle.std.specs.Prelude.{Err, Ok, Result}
use Rattle.circuit.proofs.Bytes.{length-gates}
use Rattle.circuit.proofs.Judging.{refused_not_done}
use Rattle.circuit.proofs.Placing.{placed_kept}
use Rattle.circuit.specs.Faults.{call_reply, lent_output, list_length, malformed, short_fault, wire_count, wires_fault}
use Rattle.circuit.specs.Gate.{Gate, gate, gates_of}
use Rattle.circuit.specs.Lent.{KeptFrom}
use Rattle.circuit.specs.Limits.{gate_bytes, max_gates, max_list_bytes, max_wires, max_written_gates}
use Rattle.circuit.specs.Replies.{Done, Refused, Reply, number_of}
use Rattle.circuit.specs.Told.{number, told}
use Rattle.circuit.specs.declared.faults.Refusal.{Refusal}
use Rattle.text.proofs.Deciding.{text_decided}
use Rattle.text.proofs.LineForms.{first_formed_lem}
use Rattle.text.proofs.ReadsWritten.{never, reads_written}
use Rattle.text.proofs.TextFaults.{Small, count_refused, faults_small, gate_wrong, one_too_many, one_wrong, read_circuit}
use Rattle.text.proofs.TextFaults.{read_faulty}
use Rattle.text.proofs.TextWays.{reply_of, reply_is}
use Rattle.text.proofs.WrittenReads.{circuit_pass, pair_hex, pair_low, wires_starts, written_reads}
use Rattle.text.specs.Entry.{ReadText, fault_said, gates_after, gates_said, read_into, wires_said}
use Rattle.text.specs.Hex.{hex2, hex4}
use Rattle.text.specs.Limits.{counts_line_bytes, gate_digits, gate_line_bytes, refused_line_bytes, reply_bytes, text_bytes}
use Rattle.text.specs.Limits.{byte_values, wires_digits, wires_line_bytes}
use Rattle.text.specs.Lines.{decoded, first_formed, lines_of}
use Rattle.text.specs.Text.{Sayable, Text, circuit, faulty, lines_fault, read_text, unless_refused}
use Rattle.text.specs.Written.{counts_line, gate_line, gate_lines, refused_line, text_of, wires_line}
use Rattle.text.specs.declared.Circuit.{Circuit}

wires_wrong : (n : ℕ) → (n ≡ 0) ⊎ (max_wires < n) → wires_fault n ≡ wire_count
wires_wrong n (inl e) = simp (eq-eqb n 0 e)
wires_wrong n (inr h) = simp (ne_eqb n 0 (λ e. omega arith), lt-leb n max_wires h)

-- ---- which texts are circuits

-- what is written reads back
pub circuit_reads_back : (n : ℕ) (bytes : List ℕ) → Sayable n bytes → read_text (text_of n bytes) ≡ circuit n bytes
circuit_reads_back = written_reads

-- and a text that reads as a circuit is that circuit's lines: nothing faulty is accepted
pub accepted_is_written : (t : List ℕ) (n : ℕ) (bytes : List ℕ) → read_text t ≡ circuit n bytes → Sayable n bytes × (t ≡ text_of n bytes)
accepted_is_written = reads_written

-- ---- the first fault, in line one

-- its form is judged first; an empty text has no line one
pub line_one_malformed : (t : List ℕ) → first_formed wires_digits (lines_of t) ≡ false → read_text t ≡ faulty malformed 1
line_one_malformed t e = read_faulty t malformed 1 (one_wrong t e)

-- then the count, whatever comes after line one
pub count_wrong : (n : ℕ) (rest : List ℕ) → n < byte_values → (n ≡ 0) ⊎ (max_wires < n)
    → read_text (wires_line n ++ rest) ≡ faulty wire_count 0
count_wrong n rest h w =
    let e = sym (first_formed_lem wires_digits (wires_line n ++ rest)) ∙ wires_starts n rest in
    read_faulty (wires_line n ++ rest) wire_count 0
    (sym (count_refused (wires_line n ++ rest) e (sym (wires_wrong n w)) (sym (pair_hex n h)) (λ z. omega arith)))

-- ---- the first fault, after the lines of a circuit

module _ (n : ℕ) (bytes rest : List ℕ) (is : Sayable n bytes) (more : 0 < length rest) where
  -- a line that has not the form of a gate line is named by its number: line one, a line for each gate, and itself
  pub malformed_line : length bytes < max_list_bytes → first_formed gate_digits (lines_of rest) ≡ false
      → read_text (text_of n bytes ++ rest) ≡ faulty malformed (length (gates_of bytes) + 2)
  malformed_line h e =
      read_faulty (text_of n bytes ++ rest) malformed (length (gates_of bytes) + 2)
      (circuit_pass n bytes is rest ∙ gate_wrong rest 0 (length (gates_of bytes)) more (omega (arith, length-gates bytes is.whole)) e)

  -- after the most gates anything at all gives 2
  pub one_line_more : length bytes ≡ max_list_bytes → read_text (text_of n bytes ++ rest) ≡ faulty list_length 0
  one_line_more h =
      read_faulty (text_of n bytes ++ rest) list_length 0
      (circuit_pass n bytes is rest ∙ one_too_many rest 0 (length (gates_of bytes)) more (omega (arith, length-gates bytes is.whole)))

-- ---- the call: 8 comes first, exactly where there is not room for every list

module _ (lent : ℕ) (t : List ℕ) where
  pub without_room : lent < max_list_bytes → read_into lent t ≡ faulty lent_output 0
  without_room h = simp (lt-leb max_list_bytes lent h)

  pub with_room : max_list_bytes ≤ lent → read_into lent t ≡ read_text t
  with_room h = simp (le-leb max_list_bytes lent h)

-- every fault's number is 1 to 9 and its place at most one more than the most gates, so two and four digits say them
pub fault_small : (lent : ℕ) (t : List ℕ) (number place : ℕ) → read_into lent t ≡ faulty number place
    → (1 ≤ number) × (number ≤ malformed) × (place ≤ max_gates + 1)
fault_small lent t number place e = go (dec_le max_list_bytes lent)
  where
    same : (f p : ℕ) → faulty f p ≡ faulty number place → Small f p → Small number place
    same f p d h =
        let a : f ≡ number = cc in
        let b : p ≡ place = cc in
        omega arith

    of_text : (r : Reply) → lines_fault (lines_of t) ≡ r → read_text t ≡ faulty number place → Small number place
    of_text Done f d = absurd (never number place _ _ (sym d ∙ read_circuit t f))
    of_text (Refused x y) f d = same x y (sym (read_faulty t x y f) ∙ d) (faults_small t x y f)

    go : Dec (max_list_bytes ≤ lent) → Small number place
    go (yes h) = of_text (lines_fault (lines_of t)) refl (sym (with_room lent t h) ∙ e)
    go (no h) = same lent_output 0 (sym (without_room lent t (omega arith)) ∙ e) (omega arith)

-- ---- the first bytes decide: 28,676 of them

pub text_numbers : (text_bytes ≡ 28676) × (reply_bytes ≡ 14807)
text_numbers = (refl, refl)

pub first_bytes_decide : (t : List ℕ) → read_text t ≡ read_text (take text_bytes t)
first_bytes_decide t = sym (text_decided t)

-- so a call with these bytes alone replies and leaves what one with the whole text does
pub call_decided : (t gates gates' : List ℕ) (r : Result Circuit Refusal) → ReadText (take text_bytes t) gates gates' r
    → ReadText t gates gates' r
call_decided t gates gates' r c =
    let same : read_into (length gates) (take text_bytes t) ≡ read_into (length gates) t =
    ap (unless_refused (call_reply (short_fault (length gates) max_list_bytes))) (text_decided t) in
    record {
      reply = c.reply ∙ ap fault_said same;
      wires = c.wires ∙ ap wires_said same;
      count = c.count ∙ ap gates_said same;
      gates_left = c.gates_left ∙ ap (λ (x : Text). gates_after x gates) same;
    }

-- ---- what the promise of `read_text` means

-- the reply is the wire count and the number of gates of what is read, or its fault
pub reply_as_read : (t gates gates' : List ℕ) (r : Result Circuit Refusal) → ReadText t gates gates' r
    → r ≡ reply_of (read_into (length gates) t)
reply_as_read t gates gates' r p = reply_is p

-- number 0 says done
pub text_number : (t gates gates' : List ℕ) (r : Result Circuit Refusal) → ReadText t gates gates' r → number_of (told r) ≡ 0
    → told r ≡ Done
text_number t gates gates' r p e = p.reply ∙ go (read_into (length gates) t) refl (sym (ap number_of p.reply) ∙ e)
  where
    go : (x : Text) → read_into (length gates) t ≡ x → number_of (fault_said x) ≡ 0 → fault_said x ≡ Done
    go (circuit n bytes) d z = refl
    go (faulty number place) d z = absurd (omega (arith, (fault_small (length gates) t number place d).0))

-- after a refusal the lent gates are as they were
pub refusal_leaves : (t gates gates' : List ℕ) (refusal : Refusal) → ReadText t gates gates' (Err refusal) → gates' ≡ gates
refusal_leaves t gates gates' refusal c = go (read_into (length gates) t) c.reply c.gates_left
  where
    go : (x : Text) → Refused (number refusal.fault) refusal.place ≡ fault_said x → gates' ≡ gates_after x gates → gates' ≡ gates
    go (circuit n bytes) e l = absurd (refused_not_done (number refusal.fault) refusal.place e)
    go (faulty f p) e l = l

-- the circuit that was read: n wires, and the bytes of m gates at the start of those lent
pub record CircuitRead (t gates gates' : List ℕ) (n m : ℕ) : Type 0 where
  pub says : read_text t ≡ circuit n (take (gate_bytes * m) gates')
  pub sayable : Sayable n (take (gate_bytes * m) gates')
  pub kept : KeptFrom (gate_bytes * m) gates gates'
  pub few : m ≤ max_gates
  pub long : length (take (gate_bytes * m) gates') ≡ gate_bytes * m

pub done_reads : (t gates gates' : List ℕ) (c : Circuit) → ReadText t gates gates' (Ok c) → CircuitRead t gates gates' c.wires c.gates
done_reads t gates gates' c p = go (dec_le max_list_bytes (length gates))
  where
    of_text : max_list_bytes ≤ length gates → (x : Text) → read_text t ≡ x → Done ≡ fault_said x → c.wires ≡ wires_said x
        → c.gates ≡ gates_said x → gates' ≡ gates_after x gates → CircuitRead t gates gates' c.wires c.gates
    of_text h (faulty f q) e r a b l = absurd (refused_not_done f q (sym r))
    of_text h (circuit k bytes) e r a b l =
        let s = (reads_written t k bytes e).0 in
        let d : gate_bytes * c.gates ≡ length bytes = omega (arith, s.whole) in
        let front : take (gate_bytes * c.gates) gates' ≡ bytes = rw (d, l) (take-append_seam bytes (drop (0 + length bytes) gates)) in
        record {
          says = e ∙ ap₂ circuit (sym a) (sym front);
          sayable = rw front (rw a s);
          kept = rw (d, l) (placed_kept gates bytes (omega (arith, s.short)));
          few = omega (arith, s.short);
          long = ap length front ∙ sym d;
        }

    go : Dec (max_list_bytes ≤ length gates) → CircuitRead t gates gates' c.wires c.gates
    go (yes h) =
        let r = with_room (length gates) t h in
        of_text h (read_text t) refl (rw r at p.reply) (rw r at p.wires) (rw r at p.count) (rw r at p.gates_left)
    go (no h) =
        absurd (refused_not_done lent_output 0 (sym (p.reply ∙ ap fault_said (without_room (length gates) t (omega arith)))))

-- the same by a reply that was found to be done
pub circuit_said : {t gates gates' : List ℕ} {r : Result Circuit Refusal} {c : Circuit} → ReadText t gates gates' r → r ≡ Ok c
    → CircuitRead t gates gates' c.wires c.gates
circuit_said {t} {gates} {gates'} {r} {c} p is =
    done_reads t gates gates' c (subst (λ (x : Result Circuit Refusal). ReadText t gates gates' x) is p)

-- its gates stand within what was lent
pub circuit_left : {t gates gates' : List ℕ} {n m : ℕ} → CircuitRead t gates gates' n m → gate_bytes * m ≤ length gates'
circuit_left {gates' = gates'} {m = m} c = omega (arith, c.long, length-take (gate_bytes * m) gates')

-- with room for every list, a refusal tells the fault of the text
pub fault_said_lem : {t gates gates' : List ℕ} {r : Result Circuit Refusal} {refusal : Refusal} → ReadText t gates gates' r
    → max_list_bytes ≤ length gates
    → r ≡ Err refusal → read_text t ≡ faulty (number refusal.fault) refusal.place
fault_said_lem {t} {gates} {gates'} {r} {refusal} p room is =
    go (read_text t) (sym (ap told is) ∙ p.reply ∙ ap fault_said (with_room (length gates) t room))
  where
    go : (x : Text) → Refused (number refusal.fault) refusal.place ≡ fault_said x → x ≡ faulty (number refusal.fault) refusal.place
    go (circuit n bytes) e = absurd (refused_not_done (number refusal.fault) refusal.place e)
    go (faulty f q) e = cc

-- ---- the lines written

-- two digits stand for a byte, and four for a number below 2^16, high byte first
pub hex2_decoded : (v : ℕ) → v < byte_values → decoded (hex2 v) ≡ v ∷ []
unfolding decoded
hex2_decoded v h = rw (pair_hex v h)

pub hex4_decoded : (v : ℕ) → v < byte_values * byte_values → decoded (hex4 v) ≡ v / byte_values ∷ v % byte_values ∷ []
unfolding decoded
hex4_decoded v h = rw (pair_hex (v / byte_values) (omega arith), pair_low v)

pub wires_line_long : (n : ℕ) → length (wires_line n) ≡ wires_line_bytes
wires_line_long n = refl

pub counts_line_long : (t_in odd_size t_out moves : ℕ) → length (counts_line t_in odd_size t_out moves) ≡ counts_line_bytes
counts_line_long t_in odd_size t_out moves = refl

pub refused_line_long : (fault place : ℕ) → length (refused_line fault place) ≡ refused_line_bytes
refused_line_long fault place = refl

pub gate_line_long : (g : Gate) → length (gate_line g) ≡ gate_line_bytes
gate_line_long (gate kind a b) = refl

pub gate_lines_long : (gs : List Gate) → length (gate_lines gs) ≡ gate_line_bytes * length gs
unfolding gate_lines
gate_lines_long [] = refl
gate_lines_long (g ∷ gs) = length-append (gate_line g) (gate_lines gs) ∙ omega (arith, gate_line_long g, gate_lines_long gs)

-- the longest reply
pub reply_fits : (n t_in odd_size t_out moves : ℕ) (gs : List Gate) → length gs ≤ max_written_gates
    → length (wires_line n ++ counts_line t_in odd_size t_out moves ++ gate_lines gs) ≤ reply_bytes
reply_fits n t_in odd_size t_out moves gs h =
    omega (arith, length-append (wires_line n ++ counts_line t_in odd_size t_out moves) (gate_lines gs), gate_lines_long gs)
