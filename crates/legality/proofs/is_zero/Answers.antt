-- The cells are as many zeros.
use mathlib.Core.List.{List}
use Prim.Native.Nat.{ℕ}
use borrow.Author.Rules.{rules}
use lib.ListN.{length, replicate, take}
use Rattle.circuit.specs.Limits.{max_members}
use Rattle.std.proofs.lemmas.Bool.Decides.{Decides-eqb}
use Rattle.legality.proofs.Deciding.{zero_by_equal}
use Rattle.std.proofs.lemmas.List.{take-replicate}
use Rattle.std.proofs.lemmas.Slice.Eq.{slice_eq-Decides}
use Rattle.legality.proofs.is_zero.Goals as goal

pub returns : goal.returns
returns c =
    let cells = c.args.cells.now in
    let zeros : List ℕ = take (length cells) (replicate max_members 0) in
    zero_by_equal cells zeros (take-replicate (length cells) max_members 0 c.requires)
    (slice_eq-Decides Decides-eqb cells zeros c.eq.result (search rules))
