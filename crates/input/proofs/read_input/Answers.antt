-- What one more read gave stands behind what was there, and is what the reader had next.
use Rattle.std.proofs.Common.{List, ◌+◌, ◌++◌, ◌-◌, ◌≡◌, ◌≤◌, ℕ}
use Rattle.std.proofs.Common.{ap, length, length-take-le, rules, subst, sym, take, ◌∙◌}
use Rattle.std.proofs.Math.Seq.{take-append-add}
use Rattle.std.proofs.lemmas.List.{take-append-le}
use Rattle.std.specs.Io.KnownBytes.{Consumes}
use Rattle.std.proofs.KnownBytes.{Consumes-trans}
use borrow.Rule.Slice.PartMut.{put_mid, post_of}
use Rattle.input.proofs.read_input.Goals as goal

-- the first a, and n of those that were put in from a on
one_more : (a k n : ℕ) (xs ys : List ℕ) → a ≤ length xs → n ≤ length ys → take a xs ++ take n ys ≡ take (a + n) (put_mid a k xs ys)
one_more a k n xs ys within fits =
    let after = post_of a k xs in
    sym
    (ap (λ m. take (m + n) (put_mid a k xs ys)) (sym (length-take-le a xs within)) ∙ take-append-add (take a xs) (ys ++ after) n
    ∙ ap (λ l. take a xs ++ l) (take-append-le n ys after fits))

pub loop-done-preserved : goal.loop-done-preserved
loop-done-preserved g c =
    let done = c.loop-done.done in
    let buf = c.loop-done.buf in
    let within = c.loop-done.invariant.within in
    let joined = one_more done (length buf - done) c.in_ok-bytes.bytes buf c.read.new.buf within c.in_ok-bytes.ensures.bound.0 in
    record {
      within = search rules;
      taken = subst (Consumes _ _) joined (Consumes-trans _ _ _ _ _ c.loop-done.invariant.taken c.in_ok-bytes.ensures.bytes.0);
    }
