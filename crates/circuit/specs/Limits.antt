-- The numbers of document 01, each once, and what follows from them. Every law takes the wire count n, and N for the most wires, as a
-- parameter: only contracts cite these.
use Rattle.std.specs.Prelude.{◌*◌, ◌+◌, ◌-◌, ◌/◌, ◌^◌, ℕ}

-- a wire count is 1 to this
abbrev pub max_wires : ℕ
max_wires = 8

-- a gate takes three bytes
abbrev pub gate_bytes : ℕ
gate_bytes = 3

abbrev pub max_gates : ℕ
max_gates = 4096

-- the longest list
abbrev pub max_list_bytes : ℕ
max_list_bytes = gate_bytes * max_gates

-- a parity is a number below this
abbrev pub parities : ℕ
parities = 2 ^ max_wires

-- the weights, and the marks of an odd set: one byte for each parity
abbrev pub table_bytes : ℕ
table_bytes = parities

-- the rows: one parity for each wire
abbrev pub row_cells : ℕ
row_cells = max_wires

-- a product entry: one bit for each pair of wires i ≤ j
abbrev pub product_bits : ℕ
product_bits = max_wires * (max_wires + 1) / 2

-- the most members of the set Y of a move
abbrev pub max_members : ℕ
max_members = product_bits + 2

-- what stands before Y in the cells of a move: z and the number in Y
abbrev pub move_head : ℕ
move_head = 2

-- the cells of a move: z, the number in Y, and Y
abbrev pub move_cells : ℕ
move_cells = move_head + max_members

-- each move takes a member from the odd set, which never has parity 0
abbrev pub max_moves : ℕ
max_moves = parities - 1

-- the longest log
abbrev pub log_cells : ℕ
log_cells = move_cells * max_moves

-- the coefficients of two wires, and of three: one byte for each two, and for each three
abbrev pub pair_bytes : ℕ
pair_bytes = max_wires * max_wires

abbrev pub triple_bytes : ℕ
triple_bytes = max_wires * pair_bytes

-- a weight is 0 to 7
abbrev pub max_weight : ℕ
max_weight = 7

-- a mark is 0 or 1
abbrev pub max_mark : ℕ
max_mark = 1

-- a list written for n wires: at most two gates for each wire of each parity, and n gates for each row
abbrev pub written_gates : ℕ → ℕ
written_gates n = n * 2 ^ n + n * n

-- the longest written list
abbrev pub max_written_gates : ℕ
max_written_gates = written_gates max_wires

-- the bytes to lend for it
abbrev pub write_bytes : ℕ
write_bytes = gate_bytes * max_written_gates

-- the most that a byte holds: what is summed before it is judged may be any bytes
abbrev pub most_byte : ℕ
most_byte = 255

-- a mask is a machine word of so many bits
abbrev pub word_bits : ℕ
word_bits = 64
