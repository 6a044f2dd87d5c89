-- What is written reads back: a circuit's lines have no fault, and stand for its bytes.
use mathlib.Core.Bool.{true}
use mathlib.Core.List.{List, [], ◌∷◌, ◌++◌, append_assoc, append-nil}
use mathlib.Core.Path.{◌∙◌, ◌≡◌, ap, ap₂, refl, sym}
use Prim.Native.Nat.{◌%◌, ◌*◌, ◌+◌, ◌/◌, ◌<◌, ◌≤◌, suc, ℕ}
use native.Mathlib.Nat.{add-zero, zero-add}
use native.Mathlib.Omega.{arith}
use lib.ListN.{get_or, length}
use Rattle.circuit.proofs.Bytes.{length-gates}
use Rattle.circuit.proofs.Judging.{wires_well}
use Rattle.circuit.specs.Faults.{refuse, wires_fault}
use Rattle.circuit.specs.Gate.{Gate, gate, gates_of}
use Rattle.circuit.specs.Limits.{gate_bytes, max_gates}
use Rattle.circuit.specs.Replies.{Done}
use Rattle.text.proofs.HexDigits.{digit_value, value_digit, value_lt}
use Rattle.text.proofs.LineForms.{first_formed_lem, first_line, starts}
use Rattle.text.proofs.TextFaults.{by_count, read_circuit, right}
use Rattle.text.specs.Hex.{digit, hex2, is_digit, newline, value_of}
use Rattle.text.specs.Limits.{byte_values, gate_digits, wires_digits}
use Rattle.text.specs.Lines.{byte_at, decoded, ended, first_formed, formed, lines_decoded, lines_of, pair}
use Rattle.text.specs.Text.{Sayable, circuit, gates_fault, lines_fault, read_text}
use Rattle.text.specs.Written.{gate_line, gate_lines, text_of, wires_line}

-- ---- a byte and its two digits

-- the last two digits of a number stand for its low byte
pub pair_low : (v : ℕ) → pair (digit (v / 16 % 16)) (digit (v % 16)) ≡ v % byte_values
pair_low v = omega (arith, (value_digit (v / 16 % 16) (omega arith)).value, (value_digit (v % 16) (omega arith)).value)

pub pair_hex : (v : ℕ) → v < byte_values → pair (digit (v / 16 % 16)) (digit (v % 16)) ≡ v
pair_hex v h = pair_low v ∙ omega arith

pub hex_pair : (a b : ℕ) → is_digit a ≡ true → is_digit b ≡ true → hex2 (pair a b) ≡ a ∷ b ∷ []
hex_pair a b f g =
    let x : (16 * value_of a + value_of b) / 16 % 16 ≡ value_of a = omega (arith, value_lt a f, value_lt b g) in
    let y : (16 * value_of a + value_of b) % 16 ≡ value_of b = omega (arith, value_lt a f, value_lt b g) in
    rw (x, y, digit_value a f, digit_value b g)

-- ---- lines as they are written

hex_digit : (v : ℕ) → is_digit (digit (v % 16)) ≡ true
hex_digit v = (value_digit (v % 16) (omega arith)).digit

starts_hex : (k v : ℕ) (t : List ℕ) → starts (suc (suc k)) (hex2 v ++ t) ≡ starts k t
unfolding starts
starts_hex k v t = rw (hex_digit (v / 16), hex_digit v)

pub wires_starts : (n : ℕ) (t : List ℕ) → starts wires_digits (wires_line n ++ t) ≡ true
unfolding starts
wires_starts n t = starts_hex 0 n (newline ∷ t)

pub gate_starts : (g : Gate) (t : List ℕ) → starts gate_digits (gate_line g ++ t) ≡ true
unfolding starts
gate_starts (gate kind a b) t =
    starts_hex 4 kind (hex2 a ++ hex2 b ++ newline ∷ t)
    ∙ starts_hex 2 a (hex2 b ++ newline ∷ t)
    ∙ starts_hex 0 b (newline ∷ t)

-- the digits of a gate
abbrev digits_of : Gate → List ℕ
digits_of (gate kind a b) = hex2 kind ++ hex2 a ++ hex2 b

gate_lines_lem : (g : Gate) (t : List ℕ) → lines_of (gate_line g ++ t) ≡ ended (digits_of g) ∷ lines_of t
gate_lines_lem (gate kind a b) t = first_line gate_digits (gate_line (gate kind a b) ++ t) (gate_starts (gate kind a b) t)

gate_formed : (g : Gate) → formed gate_digits (ended (digits_of g)) ≡ true
gate_formed g =
    let f = sym (first_formed_lem gate_digits (gate_line g ++ [])) ∙ gate_starts g [] in
    rw (gate_lines_lem g []) at f

-- gate lines that are written have no fault as long as they are few enough
pub gates_pass : (gs : List Gate) (i : ℕ) (t : List ℕ) → i + length gs ≤ max_gates
    → gates_fault i (lines_of (gate_lines gs ++ t)) ≡ gates_fault (i + length gs) (lines_of t)
unfolding gate_lines
gates_pass [] i t h = rw (add-zero i)
gates_pass (g ∷ gs) i t h =
    let e : suc i + length gs ≡ i + suc (length gs) = omega arith in
    ap (λ (l : List ℕ). gates_fault i (lines_of l)) (append_assoc (gate_line g) (gate_lines gs) t)
    ∙ ap (gates_fault i) (gate_lines_lem g (gate_lines gs ++ t))
    ∙ right i (ended (digits_of g)) (lines_of (gate_lines gs ++ t)) (omega arith) (gate_formed g)
    ∙ gates_pass gs (suc i) t (omega arith)
    ∙ ap (λ (n : ℕ). gates_fault n (lines_of t)) e

-- ---- what is written reads back

abbrev pub AllBytes : List ℕ → Type 0
AllBytes bytes = (i : ℕ) → get_or bytes i 0 < byte_values

-- and the three numbers of a gate
abbrev pub AreBytes : ℕ → ℕ → ℕ → Type 0
AreBytes kind a b = (kind < byte_values) × (a < byte_values) × (b < byte_values)

digits_decoded : (kind a b : ℕ) → kind < byte_values → a < byte_values → b < byte_values
    → decoded (digits_of (gate kind a b)) ≡ kind ∷ a ∷ b ∷ []
unfolding decoded
digits_decoded kind a b h k l = rw (pair_hex kind h, pair_hex a k, pair_hex b l)

pub line_decoded : (kind a b : ℕ) (t : List ℕ) → kind < byte_values → a < byte_values → b < byte_values
    → lines_decoded (lines_of (gate_line (gate kind a b) ++ t)) ≡ kind ∷ a ∷ b ∷ lines_decoded (lines_of t)
unfolding lines_decoded
line_decoded kind a b t h k l =
    ap lines_decoded (gate_lines_lem (gate kind a b) t)
    ∙ ap (λ (x : List ℕ). x ++ lines_decoded (lines_of t)) (digits_decoded kind a b h k l)

pub gates_decoded : (bytes : List ℕ) → length bytes % gate_bytes ≡ 0 → AllBytes bytes
    → lines_decoded (lines_of (gate_lines (gates_of bytes))) ≡ bytes
unfolding gates_of gate_lines lines_decoded lines_of
gates_decoded [] w f = refl
gates_decoded (kind ∷ []) w f = absurd (omega arith)
gates_decoded (kind ∷ a ∷ []) w f = absurd (omega arith)
gates_decoded (kind ∷ a ∷ b ∷ bytes) w f =
    line_decoded kind a b (gate_lines (gates_of bytes)) (f 0) (f 1) (f 2)
    ∙ ap (λ (x : List ℕ). kind ∷ a ∷ b ∷ x) (gates_decoded bytes (omega arith) (λ i. f (suc (suc (suc i)))))

module _ (n : ℕ) (bytes : List ℕ) (is : Sayable n bytes) where
  few_gates : length (gates_of bytes) ≤ max_gates
  few_gates = omega (arith, length-gates bytes is.whole, is.short)

  module _ (rest : List ℕ) where
    first_is : byte_at (text_of n bytes ++ rest) 0 ≡ n
    first_is = pair_hex n (omega (arith, is.few))

    one_said : first_formed wires_digits (lines_of (text_of n bytes ++ rest)) ≡ true
    one_said = sym (first_formed_lem wires_digits (text_of n bytes ++ rest)) ∙ wires_starts n (gate_lines (gates_of bytes) ++ rest)

    -- a circuit's lines have no fault: the first is that of what comes after them
    pub circuit_pass : lines_fault (lines_of (text_of n bytes ++ rest)) ≡ gates_fault (length (gates_of bytes)) (lines_of rest)
    circuit_pass =
        by_count (text_of n bytes ++ rest) one_said
        ∙ ap (λ (v : ℕ). refuse (wires_fault v) 0 (gates_fault 0 (lines_of (gate_lines (gates_of bytes) ++ rest)))) first_is
        ∙ ap (λ (f : ℕ). refuse f 0 (gates_fault 0 (lines_of (gate_lines (gates_of bytes) ++ rest)))) (wires_well n is.some is.few)
        ∙ gates_pass (gates_of bytes) 0 rest (omega (arith, few_gates))
        ∙ ap (λ (k : ℕ). gates_fault k (lines_of rest)) (zero-add (length (gates_of bytes)))

  pub written_reads : read_text (text_of n bytes) ≡ circuit n bytes
  unfolding gates_fault lines_of
  written_reads =
      let done : lines_fault (lines_of (text_of n bytes)) ≡ Done =
      ap (λ (l : List ℕ). lines_fault (lines_of l)) (sym (append-nil (text_of n bytes))) ∙ circuit_pass [] in
      read_circuit (text_of n bytes) done
      ∙ ap₂ circuit (pair_hex n (omega (arith, is.few))) (gates_decoded bytes is.whole is.byte)
