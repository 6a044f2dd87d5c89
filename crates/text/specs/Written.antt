-- Document 01, "Text form": the lines that `trim` writes; and those of `same`. Every line ends with a newline.
use Rattle.std.specs.Prelude.{List, [], ◌∷◌, ◌++◌, ℕ}
use Rattle.circuit.specs.Gate.{Gate, gate, gates_of}
use Rattle.text.specs.Hex.{hex2, hex4, newline, space}

-- n in two digits
abbrev pub wires_line : ℕ → List ℕ
wires_line n = hex2 n ++ newline ∷ []

-- a 4-digit number and the byte after it
abbrev pub number : ℕ → ℕ → List ℕ
number v after = hex4 v ++ after ∷ []

-- T in, odd set size, T out and moves, as four 4-digit numbers with single spaces
abbrev pub counts_line : ℕ → ℕ → ℕ → ℕ → List ℕ
counts_line t_in odd_size t_out moves = number t_in space ++ number odd_size space ++ number t_out space ++ number moves newline

-- a gate in six digits
abbrev pub gate_line : Gate → List ℕ
gate_line (gate kind a b) = hex2 kind ++ hex2 a ++ hex2 b ++ newline ∷ []

-- the gates one after the other
unfoldable pub gate_lines : List Gate → List ℕ
gate_lines [] = []
gate_lines (g ∷ gs) = gate_line g ++ gate_lines gs

-- the text of a circuit: n, then the gates
abbrev pub text_of : ℕ → List ℕ → List ℕ
text_of n bytes = wires_line n ++ gate_lines (gates_of bytes)

-- `refused `
abbrev pub refused : List ℕ
refused = 114 ∷ 101 ∷ 102 ∷ 117 ∷ 115 ∷ 101 ∷ 100 ∷ space ∷ []

-- a fault: `refused `, the number in two digits, a space and the place in four
abbrev pub refused_line : ℕ → ℕ → List ℕ
refused_line fault place = refused ++ hex2 fault ++ space ∷ [] ++ number place newline

-- two circuits that act alike: `same` (document 02, 2.1)
abbrev pub same_line : List ℕ
same_line = 115 ∷ 97 ∷ 109 ∷ 101 ∷ newline ∷ []

-- two that a basis state tells apart: `differ`
abbrev pub differ_line : List ℕ
differ_line = 100 ∷ 105 ∷ 102 ∷ 102 ∷ 101 ∷ 114 ∷ newline ∷ []
