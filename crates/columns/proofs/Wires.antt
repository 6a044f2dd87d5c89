-- The column that code computes; and for fewer wires than the table has room for, the column is the same.
use mathlib.Core.Path.{◌≡◌}
use Prim.Native.Nat.{◌<◌, ◌^◌, ◌≤◌, ℕ}
use Rattle.circuit.specs.Limits.{max_wires}
use Rattle.moves.proofs.OneXor.{bar_lt}
use Rattle.moves.proofs.Products.{product-wires}
use Rattle.moves.specs.Column.{bar, column}
use Rattle.columns.proofs.Entries.{entry_is}
use Rattle.columns.specs.Table.{ProductEntry}

-- the column for n wires is that for more
pub column_wires : (n N z t y : ℕ) → n ≤ N → z < 2 ^ n → y < 2 ^ n → column N z t y ≡ column n z t y
unfolding column
column_wires n N z t y h lz ly = product-wires n N (bar z t y) h (bar_lt n z t y lz ly)

-- the entry that code looks up
pub column_is : (z t y r : ℕ) → ProductEntry (bar z t y) r → r ≡ column max_wires z t y
unfolding column
column_is z t y r p = entry_is (bar z t y) r p
