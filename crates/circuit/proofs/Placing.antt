-- Bytes stored one after the other in a lent buffer.
use mathlib.Core.List.{List, [], ◌∷◌, ◌++◌}
use mathlib.Core.Path.{◌∙◌, ◌≡◌, ap, ap₂, refl, subst, sym}
use Prim.Native.Nat.{◌+◌, ◌≤◌, suc, ℕ}
use native.Mathlib.Nat.{le_refl, zero-add}
use native.Mathlib.Numerals.{add-one, add-two}
use native.Mathlib.Omega.{arith}
use lib.ListN.{drop, length, set, take, take-append-drop}
use lib.Seq.{drop-drop, drop-paste, length-paste, paste, sets, sets-eq, take-length}
use Rattle.circuit.specs.Lent.{KeptFrom, placed}

-- stores in a row, then more from where they end
pub sets_append : (l u v : List ℕ) (i j : ℕ) → i + length u ≡ j → sets (sets l i u) j v ≡ sets l i (u ++ v)
sets_append l [] v i j e = let z : j ≡ i = omega arith in ap (λ (k : ℕ). sets l k v) z
sets_append l (x ∷ u) v i j e = sets_append (set l i x) u v (suc i) j (omega arith)

pub sets_placed : (l : List ℕ) (i : ℕ) (vs : List ℕ) → i + length vs ≤ length l → sets l i vs ≡ placed l i vs
sets_placed l i vs h = sets-eq vs l i h

-- the three bytes of a gate
pub three_stored : (l : List ℕ) (j a b c a' b' c' : ℕ) → a ≡ a' → b ≡ b' → c ≡ c'
    → set (set (set l j a) (j + 1) b) (j + 2) c ≡ sets l j (a' ∷ b' ∷ c' ∷ [])
three_stored l j a b c a' b' c' e f g = rw (e, f, g, add-one j, add-two j)

-- ---- what is placed, and what is kept

placed_paste : (was : List ℕ) (at : ℕ) (these : List ℕ) → placed was at these ≡ paste was at these (length these)
placed_paste was at these = ap (λ (x : List ℕ). take at was ++ x ++ drop (at + length these) was) (sym (take-length these))

pub paste_placed : (was these : List ℕ) (at j : ℕ) → j ≡ length these → paste was at these j ≡ placed was at these
paste_placed was these at j e = ap (paste was at these) e ∙ sym (placed_paste was at these)

pub length-placed : (was : List ℕ) (at : ℕ) (these : List ℕ) → at + length these ≤ length was → length (placed was at these) ≡ length was
length-placed was at these h = ap length (placed_paste was at these) ∙ length-paste was at these (length these) h (le_refl _)

pub drop-placed : (was : List ℕ) (at : ℕ) (these : List ℕ) → at + length these ≤ length was
    → drop (at + length these) (placed was at these) ≡ drop (at + length these) was
drop-placed was at these h =
    ap (drop (at + length these)) (placed_paste was at these) ∙ drop-paste was at these (length these) (omega arith) (le_refl _)

pub kept_all : (was : List ℕ) → KeptFrom 0 was was
kept_all was = record { long = refl; kept = refl }

-- what was written up to `at` is followed by these
pub kept_placed : {before was : List ℕ} {at : ℕ} → KeptFrom at before was → (these : List ℕ) → at + length these ≤ length was
    → KeptFrom (at + length these) before (placed was at these)
kept_placed {before} {was} {at} k these h =
    record {
      long = length-placed was at these h ∙ k.long;
      kept =
          drop-placed was at these h ∙ sym (drop-drop (length these) at was) ∙ ap (drop (length these)) k.kept
          ∙ drop-drop (length these) at before;
    }

-- these at the start
pub placed_kept : (was these : List ℕ) → length these ≤ length was → KeptFrom (length these) was (placed was 0 these)
placed_kept was these h =
    subst (λ (k : ℕ). KeptFrom k was (placed was 0 these)) (zero-add (length these)) (kept_placed (kept_all was) these (omega arith))

-- and what was kept, with these in front of it, is all there is
pub front_placed : {k : ℕ} {was left : List ℕ} → KeptFrom k was left → (these : List ℕ) → k ≡ length these → take k left ≡ these
    → left ≡ placed was 0 these
front_placed {k} {was} {left} kept these long front =
    sym (take-append-drop k left) ∙ ap₂ ◌++◌ front kept.kept
    ∙ ap (λ (j : ℕ). these ++ drop j was) (long ∙ sym (zero-add (length these)))
