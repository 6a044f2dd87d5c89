-- A rule of a table, shown at all of its entries by one test that is computed, one entry after the other.
use mathlib.Core.Bool.{Bool, ◌&&◌, true}
use mathlib.Core.List.{List, [], ◌∷◌}
use mathlib.Core.Path.{◌∙◌, subst, sym}
use Prim.Native.Nat.{◌+◌, ◌<◌, suc, zero, ℕ}
use native.Mathlib.Nat.{add-suc, add-zero, le_of_suc-le-suc, not-suc-le-zero, suc-add, zero-add}
use lib.Dec.{T}
use lib.ListN.{get_or, length}
use Rattle.gf2.proofs.Brute.{T-both}

-- the test f passes at each entry of the list and its place, counted from i
abbrev pub each_entry : (ℕ → ℕ → Bool) → ℕ → List ℕ → Bool
each_entry f i [] = true
each_entry f i (x ∷ xs) = f i x && each_entry f (suc i) xs

from : (f : ℕ → ℕ → Bool) (xs : List ℕ) (i : ℕ) → T (each_entry f i xs) → (k : ℕ) → k < length xs → T (f (i + k) (get_or xs k 0))
from f [] i t k h = absurd (not-suc-le-zero h)
from f (x ∷ xs) i t zero h = subst (λ (m : ℕ). T (f m x)) (sym (add-zero i)) ((T-both (f i x) (each_entry f (suc i) xs)).0 t).0
from f (x ∷ xs) i t (suc k) h =
    subst (λ (m : ℕ). T (f m (get_or xs k 0))) (suc-add i k ∙ sym (add-suc i k))
    (from f xs (suc i) ((T-both (f i x) (each_entry f (suc i) xs)).0 t).1 k (le_of_suc-le-suc h))

pub entry_passes : (f : ℕ → ℕ → Bool) (xs : List ℕ) → T (each_entry f 0 xs) → (k : ℕ) → k < length xs → T (f k (get_or xs k 0))
entry_passes f xs t k h = subst (λ (m : ℕ). T (f m (get_or xs k 0))) (zero-add k) (from f xs 0 t k h)
