-- The lengths of document 01's text form, in bytes, each once and from the limits of a circuit.
use Rattle.std.specs.Prelude.{◌*◌, ◌+◌, ℕ}
use Rattle.circuit.specs.Limits.{gate_bytes, max_gates, max_written_gates}

-- a byte has so many values, which two digits tell
abbrev pub byte_values : ℕ
byte_values = 16 * 16

-- n has two digits
abbrev pub wires_digits : ℕ
wires_digits = 2

-- a gate has two digits for each byte
abbrev pub gate_digits : ℕ
gate_digits = 2 * gate_bytes

-- a line has its digits and a newline
abbrev pub wires_line_bytes : ℕ
wires_line_bytes = wires_digits + 1

abbrev pub gate_line_bytes : ℕ
gate_line_bytes = gate_digits + 1

-- the longest text that is a circuit
abbrev pub longest_text : ℕ
longest_text = wires_line_bytes + gate_line_bytes * max_gates

-- so many bytes of a text decide what it is: one more than the longest has
abbrev pub text_bytes : ℕ
text_bytes = longest_text + 1

-- four numbers of four digits, a space or the newline after each
abbrev pub counts_line_bytes : ℕ
counts_line_bytes = 4 * 5

-- `refused `, two digits, a space, four digits, a newline
abbrev pub refused_line_bytes : ℕ
refused_line_bytes = 8 + 2 + 1 + 4 + 1

-- the longest reply: n, the counts, the gates
abbrev pub reply_bytes : ℕ
reply_bytes = wires_line_bytes + counts_line_bytes + gate_line_bytes * max_written_gates
