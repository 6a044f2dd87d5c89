-- The members of marks as a list.
use mathlib.Core.List.{List, [], ◌++◌, ◌∷◌}
use mathlib.Core.Path.{◌∙◌, ◌≡◌, ap, refl, sym}
use Prim.Native.Nat.{◌+◌, ◌<◌, ◌^◌, ◌≤◌, suc, zero, ℕ}
use native.Mathlib.Nat.{add-zero, le_refl}
use native.Mathlib.Numerals.{add-one}
use native.Mathlib.Omega.{arith}
use lib.ListN.{length, length-set, set, take}
use lib.Seq.{take-set-le, take-suc-set}
use Rattle.circuit.specs.Limits.{max_wires, parities}
use Rattle.circuit.specs.Sound.{SoundMarks, weight}
use Rattle.moves.proofs.Keep.{member_lt}
use Rattle.moves.proofs.Sets.{in_listed, listed_in, listed_off, listed_on}
use Rattle.moves.proofs.Wires.{sound_wires}
use Rattle.moves.specs.Sets.{listed}
use Rattle.columns.specs.OneZ.{Members}
use Rattle.finder.specs.Search.{Gathered}

-- ---- the loop over the marks

-- the list so far, with its first `count` numbers: the members below p
pub record GatheredTo (marks list : List ℕ) (count p : ℕ) : Type 0 where
  pub fits : count ≤ p
  pub long : length list ≡ parities
  pub are : take count list ≡ listed p (weight marks)

pub gather_none : {marks list : List ℕ} → length list ≡ parities → GatheredTo marks list 0 0
unfolding listed
gather_none l = record { fits = omega arith; long = l; are = refl }

next : (marks list : List ℕ) (count p mark : ℕ) → take count list ≡ listed p (weight marks) → count < length list → weight marks p ≡ mark
    → mark < 2 → take (count + mark) (set list count p) ≡ listed (p + 1) (weight marks)
next marks list count p zero are l e b =
    rw (add-zero count) (take-set-le count list count p (le_refl _) ∙ are ∙ sym (listed_off p (weight marks) e))
next marks list count p (suc zero) are l e b =
    rw (add-one count)
    (take-suc-set list count p l ∙ ap (λ (ys : List ℕ). ys ++ (p ∷ [])) are ∙ sym (listed_on p (weight marks) e))
next marks list count p (suc (suc mark)) are l e b = absurd (omega arith)

-- p is put at the end of the list, which grows by its mark
pub gather_next : {marks list : List ℕ} {count p : ℕ} {list' : List ℕ} → GatheredTo marks list count p → p < parities → weight marks p < 2
    → list' ≡ set list count p → GatheredTo marks list' (count + weight marks p) (p + 1)
gather_next {marks} {list} {count} {p} g l b put =
    rw put (record {
      fits = omega (arith, g.fits);
      long = length-set list count p ∙ g.long;
      are = next marks list count p (weight marks p) g.are (omega (arith, g.fits, g.long)) refl b;
    })

-- ---- what was gathered

-- it is the list of the members
pub gathered_members : {n : ℕ} {marks ys : List ℕ} → n ≤ max_wires → SoundMarks parities n marks → Gathered (2 ^ n) marks ys
    → Members marks ys
gathered_members {n} {marks} {ys} fit sound g =
    record {
      sound = sound_wires parities n max_wires marks fit sound;
      few = g.fits;
      member = rw g.are (listed_in (weight marks) sound.bits (2 ^ n));
      listed = rw g.are (λ y m. in_listed (weight marks) sound.bits (2 ^ n) y (member_lt parities n marks sound y m) m);
    }
