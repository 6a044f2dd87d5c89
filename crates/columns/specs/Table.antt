-- Document 01, "Signature": what the product table is, read off the bits of its entries.
use Rattle.std.specs.Prelude.{List, ◌≡◌, ◌*◌, ◌+◌, ◌<◌, ◌^◌, ◌≤◌, ℕ, get_or, length}
use Rattle.circuit.specs.Limits.{max_wires, parities, product_bits}
use Rattle.gf2.specs.Bit.{bit}
use Rattle.moves.specs.Product.{tri}

-- r has product_bits bits, and for i ≤ j, bit j(j+1)/2 + i of it is set when p names both i and j
pub record ProductEntry (p r : ℕ) : Type 0 where
  pub fits : r < 2 ^ product_bits
  pub rule : (i j : ℕ) → i ≤ j → j < max_wires → bit r (tri j + i) ≡ bit p i * bit p j

-- the product table has an entry for each parity, entry p that of parity p
pub record ProductTable (products : List ℕ) : Type 0 where
  pub long : length products ≡ parities
  pub entries : (p : ℕ) → p < parities → ProductEntry p (get_or products p 0)
