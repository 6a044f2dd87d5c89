-- The faults of a text by cases: one turn, and each way out, of the loop over the gate lines, and of line one.
use mathlib.Core.Bool.{Bool, false, true}
use mathlib.Core.List.{List, [], ◌∷◌, ◌++◌, append-nil}
use mathlib.Core.Logic.{◌≢◌}
use mathlib.Core.Path.{◌∙◌, ◌≡◌, ap, refl, sym}
use Prim.Native.Nat.{◌+◌, ◌-◌, ◌<◌, ◌≤◌, min, suc, zero, ℕ}
use native.Mathlib.Decide.{dec_le, dec_lt, ℕ_discrete}
use native.Mathlib.Numerals.{add-one}
use native.Mathlib.Omega.{arith}
use lib.ListN.{drop, drop_of_length-le, length, length-append, take}
use lib.Seq.{drop-append_seam, take-append_seam, take_all}
use borrow.Author.Tests.{eq-eqb, le-ltb, lt-leb, lt-ltb, ne_eqb}
use Rattle.std.proofs.lemmas.List.{nil_from_length, take_rest}
use Rattle.circuit.proofs.Judging.{refuse_done, refused, wires_well}
use Rattle.circuit.specs.Faults.{list_length, malformed, refuse, wire_count, wires_fault}
use Rattle.circuit.specs.Limits.{max_gates, max_wires}
use Rattle.circuit.specs.Replies.{Done, Refused, Reply}
use Rattle.text.proofs.LineForms.{formed_lines, formed_long, formed_take, some_line}
use Rattle.text.specs.Limits.{gate_digits, gate_line_bytes, wires_digits, wires_line_bytes}
use Rattle.text.specs.Lines.{Line, byte_at, decoded, ended, first_formed, formed, lines_decoded, lines_of}
use Rattle.text.specs.Text.{circuit, faulty, gates_fault, lines_fault, read_text, wires_in}

-- ---- by lines

module _ (i : ℕ) (l : Line) (ls : List Line) where
  pub many : max_gates ≤ i → gates_fault i (l ∷ ls) ≡ Refused list_length 0
  unfolding gates_fault
  many h = simp (le-ltb i max_gates h)

  module _ (few : i < max_gates) where
    pub wrong : formed gate_digits l ≡ false → gates_fault i (l ∷ ls) ≡ Refused malformed (i + 2)
    unfolding gates_fault
    wrong e = simp (lt-ltb i max_gates few, e)

    pub right : formed gate_digits l ≡ true → gates_fault i (l ∷ ls) ≡ gates_fault (suc i) ls
    unfolding gates_fault
    right e = simp (lt-ltb i max_gates few, e)

-- ---- at a place of the text

-- the first fault of the gate lines from place `at` on, where gate line i starts
abbrev pub fault_from : List ℕ → ℕ → ℕ → Reply
fault_from t at i = gates_fault i (lines_of (drop at t))

module _ (t : List ℕ) (at i : ℕ) where
  pub no_more : length t ≤ at → fault_from t at i ≡ Done
  unfolding gates_fault lines_of
  no_more h = rw (drop_of_length-le t h)

  pub one_too_many : at < length t → max_gates ≤ i → fault_from t at i ≡ Refused list_length 0
  one_too_many h k =
      let s = some_line t at h in
      rw s.2 (many i s.0 s.1 k)

  pub gate_wrong : at < length t → i < max_gates → first_formed gate_digits (lines_of (drop at t)) ≡ false
      → fault_from t at i ≡ Refused malformed (i + 2)
  gate_wrong h k e =
      let s = some_line t at h in
      rw s.2 (wrong i s.0 s.1 k (rw s.2 at e))

  pub gate_right : i < max_gates → first_formed gate_digits (lines_of (drop at t)) ≡ true
      → fault_from t (at + gate_line_bytes) (i + 1) ≡ fault_from t at i
  gate_right k e =
      let s = formed_lines t at gate_digits e in
      sym (rw (s, add-one i) (right i (ended (take gate_digits (drop at t))) (lines_of (drop (at + gate_line_bytes) t)) k (rw s at e)))

-- ---- the loop over the gate lines, as chunks of so many bytes each

-- what chunks of n bytes each are cut into: the first of them, and what is left
pub record Cut (n : ℕ) (s line rest : List ℕ) : Type 0 where
  pub is : s ≡ line ++ rest
  pub long : length line ≡ min n (length s)
  pub some : 0 < length s

pub cut : {n : ℕ} {s line rest : List ℕ} → (s ≡ line ++ rest) × (length line ≡ min n (length s)) × (0 < length s) → Cut n s line rest
cut h = record { is = h.0; long = h.1; some = h.2 }

module _ {n : ℕ} {s line rest : List ℕ} (c : Cut n s line rest) where
  cut_is : (line ≡ take n s) × (rest ≡ drop n s)
  cut_is = go (dec_le n (length s))
    where
      go : Dec (n ≤ length s) → (line ≡ take n s) × (rest ≡ drop n s)
      go (yes h) =
          let e : n ≡ length line = omega (arith, c.long) in
          (rw (c.is, e) (sym (take-append_seam line rest)), rw (c.is, e) (sym (drop-append_seam line rest)))
      go (no h) =
          let e : length rest ≡ 0 = omega (arith, c.long, ap length c.is, length-append line rest) in
          let z : rest ≡ [] = nil_from_length rest e in
          let l : line ≡ s = sym (c.is ∙ rw z (append-nil line)) in
          (l ∙ sym (take_all n s (omega arith)), z ∙ sym (drop_of_length-le s (omega arith)))

-- the gate lines before i have the form: the first fault of the rest, which is cut on, is the first of all
pub record PassedTo (lines : List ℕ) (size i : ℕ) (rest : List ℕ) : Type 0 where
  pub cuts : size ≡ gate_line_bytes
  pub few : i ≤ max_gates
  pub same : gates_fault i (lines_of rest) ≡ gates_fault 0 (lines_of lines)

pub none_passed : {size : ℕ} {rest : List ℕ} (lines : List ℕ) → size ≡ gate_line_bytes → rest ≡ lines → PassedTo lines size 0 rest
none_passed lines e f = record { cuts = e; few = omega arith; same = rw f }

module _ {lines : List ℕ} {size i : ℕ} {rest : List ℕ} (p : PassedTo lines size i rest) where
  pub all_passed : length rest ≡ 0 → Done ≡ gates_fault 0 (lines_of lines)
  all_passed h = sym (no_more rest 0 i (omega arith)) ∙ p.same

  module _ {line more : List ℕ} (c : Cut size rest line more) where
    same_form : first_formed gate_digits (lines_of line) ≡ first_formed gate_digits (lines_of rest)
    same_form = rw (cut_is c).0 (formed_take gate_digits size rest (omega (arith, p.cuts)))

    pub line_too_many : max_gates ≤ i → Refused list_length 0 ≡ gates_fault 0 (lines_of lines)
    line_too_many h = sym (one_too_many rest 0 i c.some h) ∙ p.same

    pub line_wrong : i < max_gates → first_formed gate_digits (lines_of line) ≡ false
        → Refused malformed (i + 2) ≡ gates_fault 0 (lines_of lines)
    line_wrong h e = sym (gate_wrong rest 0 i c.some h (sym same_form ∙ e)) ∙ p.same

    pub line_passed : {size' : ℕ} → size' ≡ size → i < max_gates → first_formed gate_digits (lines_of line) ≡ true
        → PassedTo lines size' (i + 1) more
    line_passed e h f =
        record {
          cuts = e ∙ p.cuts;
          few = omega arith;
          same =
              ap (λ (l : List ℕ). gates_fault (i + 1) (lines_of l)) ((cut_is c).1 ∙ ap (λ (n : ℕ). drop n rest) p.cuts)
              ∙ gate_right rest 0 i h (sym same_form ∙ f)
              ∙ p.same;
        }

-- ---- line one

-- the gate lines as the code cuts them off
abbrev pub gate_lines_in : List ℕ → List ℕ
gate_lines_in t = take (length t - wires_line_bytes) (drop wires_line_bytes t)

pub one_wrong : (t : List ℕ) → first_formed wires_digits (lines_of t) ≡ false → lines_fault (lines_of t) ≡ Refused malformed 1
one_wrong t = go (lines_of t)
  where
    go : (ls : List Line) → first_formed wires_digits ls ≡ false → lines_fault ls ≡ Refused malformed 1
    go [] e = refl
    go (l ∷ ls) e = rw e

two : (t : List ℕ) → wires_digits < length t → wires_in (ended (take wires_digits t)) ≡ byte_at t 0
unfolding decoded
two [] h = absurd (omega arith)
two (a ∷ []) h = absurd (omega arith)
two (a ∷ b ∷ t) h = refl

module _ (t : List ℕ) (e : first_formed wires_digits (lines_of t) ≡ true) where
  pub one_long : wires_digits < length t
  one_long = formed_long t 0 wires_digits e

  one_right : lines_of t ≡ ended (take wires_digits t) ∷ lines_of (drop wires_line_bytes t)
  one_right = formed_lines t 0 wires_digits e

  one_formed : formed wires_digits (ended (take wires_digits t)) ≡ true
  one_formed = rw one_right at e

  pub by_count : lines_fault (lines_of t) ≡ refuse (wires_fault (byte_at t 0)) 0 (fault_from t wires_line_bytes 0)
  by_count = rw (one_right, one_formed, two t one_long)

  module _ {f v : ℕ} (judged : f ≡ wires_fault v) (is : v ≡ byte_at t 0) where
    by_fault : lines_fault (lines_of t) ≡ refuse f 0 (fault_from t wires_line_bytes 0)
    by_fault = by_count ∙ ap (λ (x : ℕ). refuse x 0 (fault_from t wires_line_bytes 0)) (sym (judged ∙ ap wires_fault is))

    pub count_refused : f ≢ 0 → Refused f 0 ≡ lines_fault (lines_of t)
    count_refused h = sym (by_fault ∙ refused f 0 (fault_from t wires_line_bytes 0) h)

    pub count_passed : {found : Reply} → f ≡ 0 → found ≡ gates_fault 0 (lines_of (gate_lines_in t)) → found ≡ lines_fault (lines_of t)
    count_passed h g = (rw (take_rest t wires_line_bytes) at g) ∙ sym (by_fault ∙ rw h)

-- ---- no fault: what the loop that stores leans on

not_done : (number place : ℕ) → Refused number place ≡ Done → ⊥
not_done number place e = let z : ◌≡◌ {A = ℕ} 0 1 = cc in omega arith

module _ (t : List ℕ) (at i : ℕ) (inside : at < length t) (done : fault_from t at i ≡ Done) where
  pub done_few : i < max_gates
  done_few = go (dec_lt i max_gates)
    where
      go : Dec (i < max_gates) → i < max_gates
      go (yes h) = h
      go (no h) = absurd (not_done list_length 0 (sym (one_too_many t at i inside (omega arith)) ∙ done))

  pub done_formed : first_formed gate_digits (lines_of (drop at t)) ≡ true
  done_formed = go (first_formed gate_digits (lines_of (drop at t))) refl
    where
      go : (b : Bool) → first_formed gate_digits (lines_of (drop at t)) ≡ b → b ≡ true
      go true e = refl
      go false e = absurd (not_done malformed (i + 2) (sym (gate_wrong t at i inside done_few e) ∙ done))

  pub done_next : fault_from t (at + gate_line_bytes) (i + 1) ≡ Done
  done_next = gate_right t at i done_few done_formed ∙ done

-- ---- no fault: what the text is

module _ (t : List ℕ) (done : lines_fault (lines_of t) ≡ Done) where
  pub one_formed_done : first_formed wires_digits (lines_of t) ≡ true
  one_formed_done = go (first_formed wires_digits (lines_of t)) refl
    where
      go : (b : Bool) → first_formed wires_digits (lines_of t) ≡ b → b ≡ true
      go true e = refl
      go false e = absurd (not_done malformed 1 (sym (one_wrong t e) ∙ done))

  judged_done : (wires_fault (byte_at t 0) ≡ 0) × (fault_from t wires_line_bytes 0 ≡ Done)
  judged_done = refuse_done (wires_fault (byte_at t 0)) 0 (fault_from t wires_line_bytes 0) (sym (by_count t one_formed_done) ∙ done)

  pub count_done : wires_fault (byte_at t 0) ≡ 0
  count_done = judged_done.0

  pub gates_done : fault_from t wires_line_bytes 0 ≡ Done
  gates_done = judged_done.1

  pub read_circuit : read_text t ≡ circuit (byte_at t 0) (lines_decoded (lines_of (drop wires_line_bytes t)))
  unfolding read_text
  read_circuit = rw (done, one_right t one_formed_done, two t (one_long t one_formed_done))

pub read_faulty : (t : List ℕ) (number place : ℕ) → lines_fault (lines_of t) ≡ Refused number place → read_text t ≡ faulty number place
unfolding read_text
read_faulty t number place e = rw e

-- ---- a fault's number and place are small, and the number is not 0

abbrev pub Small : ℕ → ℕ → Type 0
Small number place = (1 ≤ number) × (number ≤ malformed) × (place ≤ max_gates + 1)

same_fault : (f p number place : ℕ) → Refused f p ≡ Refused number place → Small f p → Small number place
same_fault f p number place e h =
    let a : f ≡ number = cc in
    let b : p ≡ place = cc in
    omega arith

gates_small : (ls : List Line) (i number place : ℕ) → gates_fault i ls ≡ Refused number place → Small number place
unfolding gates_fault
gates_small [] i number place e = absurd (not_done number place (sym e))
gates_small (l ∷ ls) i number place e =
    go (dec_lt i max_gates) (formed gate_digits l) refl
    (λ (f : gates_fault (suc i) ls ≡ Refused number place). gates_small ls (suc i) number place f)
  where
    go : Dec (i < max_gates) → (b : Bool) → formed gate_digits l ≡ b → (gates_fault (suc i) ls ≡ Refused number place → Small number place)
        → Small number place
    go (no h) b f later = same_fault list_length 0 number place (sym (many i l ls (omega arith)) ∙ e) (omega arith)
    go (yes h) false f later = same_fault malformed (i + 2) number place (sym (wrong i l ls h f) ∙ e) (omega arith)
    go (yes h) true f later = later (sym (right i l ls h f) ∙ e)

wires_small : (n : ℕ) → wires_fault n ≤ wire_count
wires_small n = go (ℕ_discrete n 0) (dec_le n max_wires)
  where
    go : Dec (n ≡ 0) → Dec (n ≤ max_wires) → wires_fault n ≤ wire_count
    go (yes e) b = simp (eq-eqb n 0 e) (omega arith)
    go (no e) (yes h) = omega (arith, wires_well n (omega arith) h)
    go (no e) (no h) = simp (ne_eqb n 0 e, lt-leb n max_wires (omega arith)) (omega arith)

refuse_small : (f : ℕ) (rest : Reply) (number place : ℕ) → f ≤ wire_count → refuse f 0 rest ≡ Refused number place
    → (rest ≡ Refused number place → Small number place) → Small number place
refuse_small zero rest number place h e later = later e
refuse_small (suc f) rest number place h e later = same_fault (suc f) 0 number place e (omega arith)

pub faults_small : (t : List ℕ) (number place : ℕ) → lines_fault (lines_of t) ≡ Refused number place → Small number place
faults_small t number place e = go (first_formed wires_digits (lines_of t)) refl
  where
    go : (b : Bool) → first_formed wires_digits (lines_of t) ≡ b → Small number place
    go false f = same_fault malformed 1 number place (sym (one_wrong t f) ∙ e) (omega arith)
    go true f =
        refuse_small (wires_fault (byte_at t 0)) (fault_from t wires_line_bytes 0) number place (wires_small (byte_at t 0))
        (sym (by_count t f) ∙ e)
        (gates_small (lines_of (drop wires_line_bytes t)) 0 number place)
