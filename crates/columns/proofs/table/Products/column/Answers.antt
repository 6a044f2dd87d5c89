-- One look-up.
use mathlib.Core.Path.{◌≡◌, subst}
use Prim.Native.Nat.{ℕ}
use borrow.Author.Rules.{rules}
use Rattle.columns.proofs.Wires.{column_is}
use Rattle.columns.specs.Table.{ProductEntry}
use Rattle.columns.proofs.table.Products.column.Goals as goal

pub returns : goal.returns
returns c =
    let same_z : c.from.result ≡ c.args.one.z = search rules in
    let same_y : c.from-2.result ≡ c.args.y = search rules in
    rw (← same_z, ← same_y) (column_is _ _ _ _ (subst (λ (x : ℕ). ProductEntry x c.entry.result.bits) c.bar.ensures.0 c.entry.ensures))
