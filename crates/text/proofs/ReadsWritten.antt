-- What reads is written so: a text without a fault is its circuit's lines, taken off the front one after the other.
use mathlib.Core.Bool.{◌&&◌, false, false≢true, true}
use mathlib.Core.List.{List, [], ◌∷◌, ◌++◌}
use mathlib.Core.Path.{◌∙◌, ◌≡◌, ap, ap₂, refl, sym}
use Prim.Native.Nat.{◌%◌, ◌*◌, ◌+◌, ◌<◌, ◌≤◌, suc, zero, ℕ}
use native.Mathlib.Omega.{arith}
use lib.ListN.{drop, length}
use borrow.Author.Tests.{eqb-true}
use Rattle.circuit.proofs.Judging.{wires_pass}
use Rattle.circuit.specs.Gate.{gate, gates_of}
use Rattle.circuit.specs.Limits.{gate_bytes, max_gates}
use Rattle.circuit.specs.Replies.{Reply}
use Rattle.circuit.specs.Replies.{Done, Refused}
use Rattle.text.proofs.HexDigits.{value_lt}
use Rattle.text.proofs.LineForms.{and_both, first_formed_lem, starts}
use Rattle.text.proofs.TextFaults.{count_done, done_few, done_formed, done_next, fault_from, gates_done, one_formed_done}
use Rattle.text.proofs.TextFaults.{read_circuit, read_faulty}
use Rattle.text.specs.Hex.{hex2, is_digit, newline}
use Rattle.text.specs.Limits.{byte_values, gate_digits, gate_line_bytes, wires_digits, wires_line_bytes}
use Rattle.text.specs.Lines.{byte_at, lines_decoded, lines_of, pair}
use Rattle.text.specs.Text.{Sayable, circuit, faulty, lines_fault, read_text}
use Rattle.text.specs.Written.{gate_line, gate_lines, text_of, wires_line}
use Rattle.text.proofs.WrittenReads.{AllBytes, AreBytes, hex_pair, line_decoded, pair_hex}

-- the digits of a byte taken off the front
record Peeled (k : ℕ) (t : List ℕ) : Type 0 where
  value : ℕ
  rest : List ℕ
  small : value < byte_values
  is : t ≡ hex2 value ++ rest
  more : starts k rest ≡ true

peel : (k : ℕ) (t : List ℕ) → starts (suc (suc k)) t ≡ true → Peeled k t
unfolding starts
peel k [] e = absurd (false≢true e)
peel k (a ∷ []) e = absurd (false≢true (and_both (is_digit a) false e).1)
peel k (a ∷ b ∷ t) e =
    let x = and_both (is_digit a) (is_digit b && starts k t) e in
    let y = and_both (is_digit b) (starts k t) x.1 in
    record {
      value = pair a b;
      rest = t;
      small = omega (arith, value_lt a x.0, value_lt b y.0);
      is = ap (λ (l : List ℕ). l ++ t) (sym (hex_pair a b x.0 y.0));
      more = y.1;
    }

-- the newline taken off
end : (t : List ℕ) → starts 0 t ≡ true → (rest : List ℕ) × (t ≡ newline ∷ rest)
unfolding starts
end [] e = absurd (false≢true e)
end (b ∷ t) e = (t, ap (λ (x : ℕ). x ∷ t) (eqb-true b newline e))

-- a line of n and one of a gate, with what comes after it
pub record WiresFirst (t : List ℕ) : Type 0 where
  pub n : ℕ
  pub rest : List ℕ
  pub small : n < byte_values
  pub is : t ≡ wires_line n ++ rest

pub record GateFirst (t : List ℕ) : Type 0 where
  pub kind : ℕ
  pub a : ℕ
  pub b : ℕ
  pub rest : List ℕ
  pub small : AreBytes kind a b
  pub is : t ≡ gate_line (gate kind a b) ++ rest

wires_first : (t : List ℕ) → starts wires_digits t ≡ true → WiresFirst t
wires_first t e =
    let x = peel 0 t e in
    let z = end x.rest x.more in
    record { n = x.value; rest = z.0; small = x.small; is = x.is ∙ ap (λ (l : List ℕ). hex2 x.value ++ l) z.1 }

gate_first : (t : List ℕ) → starts gate_digits t ≡ true → GateFirst t
gate_first t e =
    let x = peel 4 t e in
    let y = peel 2 x.rest x.more in
    let w = peel 0 y.rest y.more in
    let z = end w.rest w.more in
    let last = w.is ∙ ap (λ (l : List ℕ). hex2 w.value ++ l) z.1 in
    let two = y.is ∙ ap (λ (l : List ℕ). hex2 y.value ++ l) last in
    record {
      kind = x.value;
      a = y.value;
      b = w.value;
      rest = z.0;
      small = (x.small, y.small, w.small);
      is = x.is ∙ ap (λ (l : List ℕ). hex2 x.value ++ l) two;
    }

-- gate lines of which r may come yet, and the bytes that they stand for
record Decodes (r : ℕ) (t bytes : List ℕ) : Type 0 where
  written : t ≡ gate_lines (gates_of bytes)
  whole : length bytes % gate_bytes ≡ 0
  short : length bytes ≤ gate_bytes * r
  byte : AllBytes bytes

pub bytes_more : (kind a b : ℕ) (bytes : List ℕ) → AreBytes kind a b → AllBytes bytes → AllBytes (kind ∷ a ∷ b ∷ bytes)
bytes_more kind a b bytes h f zero = h.0
bytes_more kind a b bytes h f (suc zero) = h.1
bytes_more kind a b bytes h f (suc (suc zero)) = h.2
bytes_more kind a b bytes h f (suc (suc (suc i))) = f i

no_gates : (r : ℕ) → Decodes r [] (lines_decoded (lines_of []))
unfolding gates_of gate_lines lines_decoded lines_of
no_gates r = record { written = refl; whole = refl; short = omega arith; byte = λ i. omega arith }

one_gate : (r : ℕ) (t : List ℕ) (g : GateFirst t) → Decodes r g.rest (lines_decoded (lines_of g.rest))
    → Decodes (suc r) t (lines_decoded (lines_of t))
unfolding gates_of gate_lines
one_gate r t g s =
    let kind = g.kind in
    let a = g.a in
    let b = g.b in
    let more = lines_decoded (lines_of g.rest) in
    let e : lines_decoded (lines_of t) ≡ kind ∷ a ∷ b ∷ more =
    ap (λ (l : List ℕ). lines_decoded (lines_of l)) g.is ∙ line_decoded kind a b g.rest g.small.0 g.small.1 g.small.2 in
    rw e
    (record {
      written = g.is ∙ ap (λ (l : List ℕ). gate_line (gate kind a b) ++ l) s.written;
      whole = omega (arith, s.whole);
      short = omega (arith, s.short);
      byte = bytes_more kind a b more g.small s.byte;
    })

module _ (i b : ℕ) (t : List ℕ) (d : fault_from (b ∷ t) 0 i ≡ Done) where
  gate_there : GateFirst (b ∷ t)
  gate_there = gate_first (b ∷ t) (first_formed_lem gate_digits (b ∷ t) ∙ done_formed (b ∷ t) 0 i (omega arith) d)

  gates_after : fault_from gate_there.rest 0 (i + 1) ≡ Done
  gates_after =
      ap (λ (l : List ℕ). fault_from l 0 (i + 1)) (sym (ap (drop gate_line_bytes) gate_there.is))
      ∙ done_next (b ∷ t) 0 i (omega arith) d

gates_written : (r i : ℕ) (t : List ℕ) → i + r ≡ max_gates → fault_from t 0 i ≡ Done → Decodes r t (lines_decoded (lines_of t))
gates_written zero i [] e d = no_gates 0
gates_written (suc r) i [] e d = no_gates (suc r)
gates_written zero i (b ∷ t) e d = absurd (omega (arith, done_few (b ∷ t) 0 i (omega arith) d))
gates_written (suc r) i (b ∷ t) e d =
    let g = gate_there i b t d in
    one_gate r (b ∷ t) g (gates_written r (i + 1) g.rest (omega arith) (gates_after i b t d))

-- a text without a fault is the text of a circuit
module _ (t : List ℕ) (done : lines_fault (lines_of t) ≡ Done) where
  line_one : WiresFirst t
  line_one = wires_first t (first_formed_lem wires_digits t ∙ one_formed_done t done)

  after_one : drop wires_line_bytes t ≡ line_one.rest
  after_one = ap (drop wires_line_bytes) line_one.is

  said_gates : Decodes max_gates (drop wires_line_bytes t) (lines_decoded (lines_of (drop wires_line_bytes t)))
  said_gates = gates_written max_gates 0 (drop wires_line_bytes t) refl (gates_done t done)

  said_count : byte_at t 0 ≡ line_one.n
  said_count = ap (λ (l : List ℕ). byte_at l 0) line_one.is ∙ pair_hex line_one.n line_one.small

  pub sound_sayable : Sayable (byte_at t 0) (lines_decoded (lines_of (drop wires_line_bytes t)))
  sound_sayable =
      let w = wires_pass (byte_at t 0) (count_done t done) in
      record { some = w.0; few = w.1; whole = said_gates.whole; short = said_gates.short; byte = said_gates.byte }

  pub sound_written : t ≡ text_of (byte_at t 0) (lines_decoded (lines_of (drop wires_line_bytes t)))
  sound_written =
      line_one.is
      ∙ ap (λ (l : List ℕ). wires_line line_one.n ++ l) (sym after_one ∙ said_gates.written)
      ∙ ap (λ (n : ℕ). text_of n (lines_decoded (lines_of (drop wires_line_bytes t)))) (sym said_count)

pub never : (number place n : ℕ) (bytes : List ℕ) → faulty number place ≡ circuit n bytes → ⊥
never number place n bytes e = let z : ◌≡◌ {A = ℕ} 0 1 = cc in omega arith

pub reads_written : (t : List ℕ) (n : ℕ) (bytes : List ℕ) → read_text t ≡ circuit n bytes → Sayable n bytes × (t ≡ text_of n bytes)
reads_written t n bytes e = go (lines_fault (lines_of t)) refl
  where
    go : (f : Reply) → lines_fault (lines_of t) ≡ f → Sayable n bytes × (t ≡ text_of n bytes)
    go (Refused number place) f = absurd (never number place n bytes (sym (read_faulty t number place f) ∙ e))
    go Done f =
        let same = sym (read_circuit t f) ∙ e in
        let m : byte_at t 0 ≡ n = cc in
        let l : lines_decoded (lines_of (drop wires_line_bytes t)) ≡ bytes = cc in
        (rw (← m, ← l) (sound_sayable t f), sound_written t f ∙ ap₂ text_of m l)
