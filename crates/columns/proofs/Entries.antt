-- The rule of the product table's entries, carried from one test over the whole table to each entry; and an entry by its rule.
use mathlib.Core.Bool.{Bool, ◌&&◌}
use mathlib.Core.List.{List}
use mathlib.Core.Path.{◌≡◌}
use Prim.Native.Nat.{◌*◌, ◌+◌, ◌<◌, ◌^◌, suc, ℕ}
use native.Mathlib.Omega.{arith}
use lib.Dec.{T, eqb, eqb→eq, ltb, ltb→lt}
use lib.ListN.{get_or, length}
use Rattle.circuit.specs.Limits.{max_wires, parities, product_bits}
use Rattle.gf2.proofs.Brute.{T-both}
use Rattle.gf2.proofs.Every.{every-at}
use Rattle.gf2.specs.Bit.{bit}
use Rattle.gf2.specs.Every.{every}
use Rattle.moves.proofs.Products.{product-by_bits}
use Rattle.moves.specs.Product.{product, tri}
use Rattle.columns.proofs.Computed.{each_entry, entry_passes}
use Rattle.columns.specs.Table.{ProductEntry, ProductTable}

-- the rule for i and j, of entry p
unfoldable pub pair_right : ℕ → ℕ → ℕ → ℕ → Bool
pair_right p x j i = eqb (bit x (tri j + i)) (bit p i * bit p j)

-- and for all i ≤ j
unfoldable pub entry_right : ℕ → ℕ → Bool
entry_right p x = ltb x (2 ^ product_bits) && every max_wires (λ j. every (suc j) (pair_right p x j))

pub entry_at : (xs : List ℕ) → T (each_entry entry_right 0 xs) → (p : ℕ) → p < length xs → ProductEntry p (get_or xs p 0)
unfolding entry_right pair_right
entry_at xs t p h =
    let x : ℕ = get_or xs p 0 in
    let e =
    (T-both (ltb x (2 ^ product_bits)) (every max_wires (λ j. every (suc j) (pair_right p x j)))).0 (entry_passes entry_right xs t p h) in
    record {
      fits = ltb→lt x (2 ^ product_bits) e.0;
      rule = λ i j k l.
          eqb→eq _ _ (every-at (suc j) (pair_right p x j)
          (every-at max_wires (λ j. every (suc j) (pair_right p x j)) e.1 j l) i (omega arith));
    }

-- a list of this many entries that passes the test is the product table
pub table_by : (xs : List ℕ) → length xs ≡ parities → T (each_entry entry_right 0 xs) → ProductTable xs
table_by xs e t = record { long = e; entries = λ p h. entry_at xs t p (rw e h) }

-- a number with this rule is the entry
pub entry_is : (p r : ℕ) → ProductEntry p r → r ≡ product max_wires p
unfolding tri
entry_is p r e = product-by_bits max_wires p r e.fits e.rule
