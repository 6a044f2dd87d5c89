-- The column of a parity y for one z, in which the finder eliminates, and the pairs of wires that the check of a move looks at: for n
-- wires, with t a wire of z. They are devices of ours, and no part of document 01.
use Rattle.std.specs.Prelude.{◌*◌, ℕ}
use Rattle.std.specs.Int.Bits.{bit_xor}
use Rattle.gf2.specs.Bit.{bit}
use Rattle.gf2.specs.Copies.{pairs}
use Rattle.moves.specs.Product.{product}

-- of y and y XOR z the one without wire t
unfoldable pub bar : ℕ → ℕ → ℕ → ℕ
bar z t y = bit_xor y (bit y t * z)

-- its product entry: y and y XOR z have the same
unfoldable pub column : ℕ → ℕ → ℕ → ℕ → ℕ
column n z t y = product n (bar z t y)

-- its pairs of wires, each at a place or two of its own: the check of a move asks of them what the finder asks of the columns
unfoldable pub bar_pairs : ℕ → ℕ → ℕ → ℕ → ℕ
bar_pairs n z t y = pairs n (bar z t y)
