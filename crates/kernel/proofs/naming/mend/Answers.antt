-- Nothing to mend where the xor is 0; else two marks are flipped.
use mathlib.Core.List.{List}
use mathlib.Core.Path.{◌∙◌, ap, sym}
use Prim.Native.Nat.{ℕ}
use lib.Bits.{bit_xor}
use Rattle.moves.proofs.Finding.{mended_none, mended_some}
use Rattle.moves.specs.CarryOut.{flip}
use Rattle.kernel.proofs.naming.mend.Goals as goal

pub returns-then-total-eq0 : goal.returns-then-total-eq0
returns-then-total-eq0 c =
    rw c.if-total-eq0.true (sym (mended_none c.args.z c.args.y c.args.set.now))

pub returns : goal.returns
returns c =
    c.flip_mark-2.ensures ∙ ap (λ (l : List ℕ). flip l (bit_xor c.args.y c.args.z)) c.flip_mark.ensures
    ∙ sym (mended_some c.args.total c.args.z c.args.y c.args.set.now c.if-total-eq0.false)
