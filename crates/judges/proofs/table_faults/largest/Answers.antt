-- Each byte is held against the largest of those before it.
use mathlib.Core.Path.{◌≡◌}
use Prim.Native.Nat.{max}
use borrow.Author.Rules.{rules}
use Rattle.std.specs.List.{fold}
use Rattle.judges.proofs.LargestBytes.{largest_by_max}
use Rattle.judges.proofs.table_faults.largest.Goals as goal

pub returns : goal.returns
returns c =
    let joined : c.fold.result ≡ fold (λ most byte. max byte most) 0 c.args.bytes.now = search rules in
    rw joined (largest_by_max c.args.bytes.now)
