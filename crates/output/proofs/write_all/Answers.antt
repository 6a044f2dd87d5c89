-- What one more write took stands behind what was written.
use Rattle.std.proofs.Common.{◌+◌, ◌++◌, ◌-◌, ◌≡◌, List, ap, drop, length, subst, sym, take, ◌∙◌, ℕ}
use Rattle.std.proofs.lemmas.List.{drop-drop, take_rest}
use Rattle.std.specs.Io.KnownBytes.{Appends}
use Rattle.std.proofs.KnownBytes.{Appends-trans}
use lib.Seq.{take-add}
use Rattle.output.proofs.write_all.Goals as goal

module _ (xs : List ℕ) {rest : List ℕ} (done more : ℕ) (left : rest ≡ drop done xs) where
  -- what is left after one more write
  less : take (length rest - more) (drop more rest) ≡ drop (done + more) xs
  less = take_rest rest more ∙ ap (drop more) left ∙ drop-drop more done xs

  -- what was written, and what it took
  written : take done xs ++ take more rest ≡ take (done + more) xs
  written = ap (λ l. take done xs ++ take more l) left ∙ sym (take-add done more xs)

pub loop-rest-preserved : goal.loop-rest-preserved
loop-rest-preserved g c =
    let (done, left, put) = c.loop-rest.invariant in
    let more = c.in_ok-more.more in
    let xs = c.args.bytes.now in (
      done + more,
      less xs done more left,
      subst (Appends _ _) (written xs done more left) (Appends-trans _ _ _ _ _ put c.in_ok-more.ensures.bytes),
    )
