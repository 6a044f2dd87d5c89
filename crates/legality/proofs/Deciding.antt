-- What tests of the numbers of a list decide.
use mathlib.Core.Bool.{Bool, ◌||◌, false, true}
use mathlib.Core.List.{List, [], ◌∷◌}
use mathlib.Core.Path.{◌∙◌, ◌≡◌, ap, refl, sym}
use Prim.Native.Nat.{◌<◌, suc, zero, ℕ}
use native.Mathlib.Omega.{arith}
use lib.Bits.{bit_xor}
use lib.Dec.{eqb}
use lib.ListN.{get_or, length, length-replicate, replicate}
use Rattle.std.proofs.lemmas.List.{ext_get_or}
use Rattle.gf2.proofs.Table.{get_or-zeros}
use borrow.Author.Tests.{eqb-false, eqb-true}
use Rattle.gf2.proofs.Answers.{answer_no, answer_yes, decides_as, never}
use Rattle.moves.proofs.Deciding.{separates_at}
use Rattle.std.specs.Bool.{Decides as Equal, MatchBool}
use Rattle.std.specs.List.{AllWithin, HoldsAt, list_any}
use Rattle.moves.specs.Move.{Separates}
use Rattle.moves.specs.Sets.{In}
use Rattle.gf2.specs.Tests.{Decides}
use Rattle.legality.specs.Tested.{IsZero, Outside}

-- ---- cells that are all 0

-- as many zeros are equal to them
pub zero_by_equal : (cells zeros : List ℕ) {r : Bool} → zeros ≡ replicate (length cells) 0 → Equal r (cells ≡ zeros)
    → Decides r (IsZero cells)
zero_by_equal cells zeros z equal = (
  λ e i l. ap (λ (t : List ℕ). get_or t i 0) (equal.0 e) ∙ at i,
  λ e h. never
      (sym e ∙ equal.1 (ext_get_or 0 cells zeros (sym (ap length z ∙ length-replicate (length cells) 0)) (λ i l. h i l ∙ sym (at i)))),
)
  where
    at : (i : ℕ) → get_or zeros i 0 ≡ 0
    at i = rw z (get_or-zeros (length cells) i)

-- ---- a number looked for among all of a list

pub in_by_any : (b : ℕ) (Y : List ℕ) → Decides (list_any (λ y. eqb y b) Y) (In b Y)
in_by_any b [] = answer_no (λ p. absurd (omega (arith, p.1)))
in_by_any b (y ∷ Y) = at (eqb y b) refl (in_by_any b Y)
  where
    later : In b Y → In b (y ∷ Y)
    later p = (suc p.0, omega (arith, p.1), p.2)

    sooner : eqb y b ≡ false → In b (y ∷ Y) → In b Y
    sooner e (zero, l, q) = absurd (eqb-false y b e q)
    sooner e (suc i, l, q) = (i, omega arith, q)

    at : (t : Bool) → eqb y b ≡ t → Decides (list_any (λ y. eqb y b) Y) (In b Y)
        → Decides (t || list_any (λ y. eqb y b) Y) (In b (y ∷ Y))
    at true e rest = answer_yes (0, omega arith, eqb-true y b e)
    at false e rest = decides_as later (sooner e) rest

-- ---- z separates

-- whether some a in Y has its b, as a search through Y answers
pub separates_by_any : (marks : List ℕ) (z : ℕ) (Y : List ℕ) {r : Bool}
    → MatchBool r ((k : ℕ) × (k < length Y) × HoldsAt (λ y. Outside marks Y (bit_xor y z)) Y k)
    (AllWithin (λ y. Outside marks Y (bit_xor y z) → ⊥) Y 0 (length Y))
    → Decides r (Separates marks z Y)
separates_by_any marks z Y {r = true} f =
    let o = f.2 0 in
    answer_yes ((separates_at marks z Y).1 (f.0, record { inside = f.1; member = o.0; outside = o.1 }))
separates_by_any marks z Y {r = false} none =
    answer_no
    (λ s.
    let p = (separates_at marks z Y).0 s in
    none p.0 0 (omega arith) p.1.inside (p.1.member, p.1.outside))
