-- One test over the whole table, computed, carried to each entry.
use mathlib.Core.Path.{refl}
use Rattle.gf2.specs.Bit.{bit}
use Rattle.gf2.specs.Every.{every}
use Rattle.moves.specs.Product.{tri}
use Rattle.columns.proofs.Entries.{entry_right, pair_right, table_by}
use Rattle.columns.proofs.table.Products.new.Goals as goal

pub invariant_of-result : goal.invariant_of-result
unfolding entry_right pair_right every bit tri
invariant_of-result c = record { table = table_by _ refl tt }
