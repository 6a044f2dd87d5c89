-- The laws of columns on one page: what the contracts of the crate's functions mean. The proofs are in the modules named.
use mathlib.Core.List.{List}
use mathlib.Core.Path.{◌≡◌}
use Prim.Native.Nat.{◌<◌, ◌^◌, ◌≤◌, ℕ}
use lib.ListN.{get_or}
use Rattle.circuit.specs.Limits.{max_wires, parities}
use Rattle.moves.specs.Column.{column}
use Rattle.moves.specs.Product.{product}
use Rattle.columns.proofs.Entries.{entry_is}
use Rattle.columns.proofs.Wires.{column_wires}
use Rattle.columns.specs.Table.{ProductEntry, ProductTable}

-- `Products::entry`: product_bits bits with this rule are the product entry
pub entry_is_product : (p r : ℕ) → ProductEntry p r → r ≡ product max_wires p
entry_is_product = entry_is

-- `Products`: entry p of the table is that of p
pub table_is_products : (products : List ℕ) → ProductTable products → (p : ℕ) → p < parities → get_or products p 0 ≡ product max_wires p
table_is_products products table p h = entry_is p (get_or products p 0) (table.entries p h)

-- `Products::column`: that of n wires is the same
pub column_on_fewer_wires : (n z t y : ℕ) → n ≤ max_wires → z < 2 ^ n → y < 2 ^ n → column max_wires z t y ≡ column n z t y
column_on_fewer_wires n = column_wires n max_wires
