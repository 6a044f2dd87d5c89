-- Document 01, "Text form": what a text is, a circuit or faulty. Line one is n in two digits; each further line is one gate in six.
use Rattle.std.specs.Prelude.{cond, List, [], ◌∷◌, ◌≡◌, ◌%◌, ◌+◌, ◌<◌, ◌≤◌, suc, ℕ, ltb, get_or, length}
use Rattle.circuit.specs.Faults.{list_length, malformed, refuse, wires_fault}
use Rattle.circuit.specs.Limits.{gate_bytes, max_gates, max_list_bytes, max_wires}
use Rattle.circuit.specs.Replies.{Reply}
use Rattle.circuit.specs.Replies.{Done, Refused}
use Rattle.text.specs.Limits.{byte_values, gate_digits, wires_digits}
use Rattle.text.specs.Lines.{Line, formed, line_decoded, lines_of, lines_decoded}

-- n, of line one
abbrev pub wires_in : Line → ℕ
wires_in l = get_or (line_decoded l) 0 0

-- the first fault of the gate lines, the first of which is gate line i, counted from 0: line i + 2 of the text.
-- Gate line max_gates + 1 gives 2 whatever it holds
unfoldable pub gates_fault : ℕ → List Line → Reply
gates_fault i [] = Done
gates_fault i (l ∷ ls) =
    cond (ltb i max_gates)
    (cond (formed gate_digits l) (gates_fault (suc i) ls) (Refused malformed (i + 2)))
    (Refused list_length 0)

-- the first fault of a text's lines: of line one its form, then the count; then the gate lines
abbrev pub lines_fault : List Line → Reply
lines_fault [] = Refused malformed 1
lines_fault (l ∷ ls) = cond (formed wires_digits l) (refuse (wires_fault (wires_in l)) 0 (gates_fault 0 ls)) (Refused malformed 1)

-- a circuit: the wire count and the bytes of the gates; or the number and place of the first fault
pub data Text : Type 0 where
  circuit : ℕ → List ℕ → Text
  faulty : ℕ → ℕ → Text

abbrev pub unless_refused : Reply → Text → Text
unless_refused Done t = t
unless_refused (Refused number place) t = faulty number place

-- what lines without a fault say
abbrev pub lines_say : List Line → Text
lines_say [] = circuit 0 []
lines_say (l ∷ ls) = circuit (wires_in l) (lines_decoded ls)

-- what a text is
unfoldable pub read_text : List ℕ → Text
read_text t = unless_refused (lines_fault (lines_of t)) (lines_say (lines_of t))

-- a circuit that a text can say: the wire count and the number of gates within their limits, and bytes
pub record Sayable (n : ℕ) (bytes : List ℕ) : Type 0 where
  pub some : 1 ≤ n
  pub few : n ≤ max_wires
  pub whole : length bytes % gate_bytes ≡ 0
  pub short : length bytes ≤ max_list_bytes
  pub byte : (i : ℕ) → get_or bytes i 0 < byte_values
