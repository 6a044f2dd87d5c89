-- Texts that a misreading would take otherwise, and lines as they are printed, computed.
use mathlib.Core.List.{[], ◌∷◌, ◌++◌}
use mathlib.Core.Path.{◌≡◌, refl}
use Rattle.circuit.specs.Gate.{gate}
use Rattle.text.specs.Hex.{digit, is_digit, value_of}
use Rattle.text.specs.Lines.{are_digits, decoded, lines_decoded, lines_of}
use Rattle.text.specs.Text.{circuit, faulty, gates_fault, read_text}
use Rattle.text.specs.Written.{counts_line, gate_lines, refused_line, wires_line}

-- ---- read

-- document 01's example: `01`, `020000`, `020000`
example : read_text (48 ∷ 49 ∷ 10 ∷ 48 ∷ 50 ∷ 48 ∷ 48 ∷ 48 ∷ 48 ∷ 10 ∷ 48 ∷ 50 ∷ 48 ∷ 48 ∷ 48 ∷ 48 ∷ 10 ∷ [])
    ≡ circuit 1 (2 ∷ 0 ∷ 0 ∷ 2 ∷ 0 ∷ 0 ∷ [])
unfolding read_text lines_of are_digits gates_fault decoded lines_decoded is_digit value_of
example = refl

-- `01` alone is a circuit without gates
no_gate : read_text (48 ∷ 49 ∷ 10 ∷ []) ≡ circuit 1 []
unfolding read_text lines_of are_digits gates_fault decoded lines_decoded is_digit value_of
no_gate = refl

-- gates are not judged: `ffffff` is read
gates_unjudged : read_text (48 ∷ 49 ∷ 10 ∷ 102 ∷ 102 ∷ 102 ∷ 102 ∷ 102 ∷ 102 ∷ 10 ∷ []) ≡ circuit 1 (255 ∷ 255 ∷ 255 ∷ [])
unfolding read_text lines_of are_digits gates_fault decoded lines_decoded is_digit value_of
gates_unjudged = refl

-- an empty text
empty : read_text ([]) ≡ faulty 9 1
unfolding read_text lines_of are_digits gates_fault decoded lines_decoded is_digit value_of
empty = refl

-- line one without its newline
no_newline : read_text (48 ∷ 49 ∷ []) ≡ faulty 9 1
unfolding read_text lines_of are_digits gates_fault decoded lines_decoded is_digit value_of
no_newline = refl

-- the last line without its newline
no_newline_last : read_text (48 ∷ 49 ∷ 10 ∷ 48 ∷ 50 ∷ 48 ∷ 48 ∷ 48 ∷ 48 ∷ []) ≡ faulty 9 2
unfolding read_text lines_of are_digits gates_fault decoded lines_decoded is_digit value_of
no_newline_last = refl

-- an upper-case digit
upper_case : read_text (48 ∷ 49 ∷ 10 ∷ 48 ∷ 50 ∷ 48 ∷ 48 ∷ 48 ∷ 65 ∷ 10 ∷ []) ≡ faulty 9 2
unfolding read_text lines_of are_digits gates_fault decoded lines_decoded is_digit value_of
upper_case = refl

-- an empty line
empty_line : read_text (48 ∷ 49 ∷ 10 ∷ 10 ∷ []) ≡ faulty 9 2
unfolding read_text lines_of are_digits gates_fault decoded lines_decoded is_digit value_of
empty_line = refl

-- a byte before the newline
carriage_return : read_text (48 ∷ 49 ∷ 13 ∷ 10 ∷ []) ≡ faulty 9 1
unfolding read_text lines_of are_digits gates_fault decoded lines_decoded is_digit value_of
carriage_return = refl

-- no wire
no_wires : read_text (48 ∷ 48 ∷ 10 ∷ []) ≡ faulty 1 0
unfolding read_text lines_of are_digits gates_fault decoded lines_decoded is_digit value_of
no_wires = refl

-- more wires than there can be: `ff`
many_wires : read_text (102 ∷ 102 ∷ 10 ∷ []) ≡ faulty 1 0
unfolding read_text lines_of are_digits gates_fault decoded lines_decoded is_digit value_of
many_wires = refl

-- of line one the form is judged before the count
form_then_count : read_text (48 ∷ 48 ∷ []) ≡ faulty 9 1
unfolding read_text lines_of are_digits gates_fault decoded lines_decoded is_digit value_of
form_then_count = refl

-- and the count before the next line
count_then_gates : read_text (102 ∷ 102 ∷ 10 ∷ 48 ∷ []) ≡ faulty 1 0
unfolding read_text lines_of are_digits gates_fault decoded lines_decoded is_digit value_of
count_then_gates = refl

-- ---- written

-- document 01's example again: `01`, `0002 0000 0000 0000`, `030000`
printed : wires_line 1 ++ counts_line 2 0 0 0 ++ gate_lines (gate 3 0 0 ∷ [])
    ≡ 48 ∷ 49 ∷ 10 ∷
    48 ∷ 48 ∷ 48 ∷ 50 ∷ 32 ∷ 48 ∷ 48 ∷ 48 ∷ 48 ∷ 32 ∷ 48 ∷ 48 ∷ 48 ∷ 48 ∷ 32 ∷ 48 ∷ 48 ∷ 48 ∷ 48 ∷ 10 ∷
    48 ∷ 51 ∷ 48 ∷ 48 ∷ 48 ∷ 48 ∷ 10 ∷ []
unfolding gate_lines digit
printed = refl

-- `refused 09 1001`
printed_fault : refused_line 9 4097 ≡ 114 ∷ 101 ∷ 102 ∷ 117 ∷ 115 ∷ 101 ∷ 100 ∷ 32 ∷ 48 ∷ 57 ∷ 32 ∷ 49 ∷ 48 ∷ 48 ∷ 49 ∷ 10 ∷ []
unfolding digit
printed_fault = refl
