-- Tables: entries of `tabulate`, and the weighted sum after one entry is changed.
use mathlib.Core.List.{List, [], ◌∷◌}
use mathlib.Core.Path.{ap, refl, sym, ◌∙◌, ◌≡◌}
use Prim.Native.Nat.{◌%◌, ◌*◌, ◌+◌, ◌/◌, ◌<◌, suc, zero, ℕ, ◌≤◌}
use native.Mathlib.Decide.{ℕ_discrete}
use native.Mathlib.Nat.{div-add-mod', mod-add-mod, suc-add, zero-add}
use native.Mathlib.Omega.{arith}
use lib.ListN.{drop, get_or, length, length-set, replicate, set, take}
use lib.Seq.{ext_get_or, get_or-set_other, get_or-set_same, take-nil}
use Rattle.gf2.proofs.Modular.{mod_by}
use Rattle.gf2.proofs.Sum.{sum-ext, sum-update}
use Rattle.gf2.specs.Sum.{sum}
use Rattle.gf2.specs.Table.{add_at, tabulate, weighted_sum}

close : (m s' s a v t : ℕ) → s' + a * t ≡ s + (a + v) % m * t → s' % m ≡ (s + v * t) % m
close m s' s a v t e = sym (mod_by m ((a + v) / m * t) s' (s + v * t) (omega (arith, ap (λ (y : ℕ). y * t) (div-add-mod' (a + v) m))))

pub weighted_sum-add_at : (m : ℕ) (w : List ℕ) (c : ℕ → ℕ) (q v : ℕ) → q < length w
    → weighted_sum (add_at m w q v) c % m ≡ (weighted_sum w c + v * c q) % m
unfolding weighted_sum
weighted_sum-add_at m w c q v h =
    let u : ℕ = (get_or w q 0 + v) % m in
    ap (λ (k : ℕ). sum k (λ p. get_or (set w q u) p 0 * c p) % m) (length-set w q u)
    ∙ close m _ _ (get_or w q 0) v (c q)
    (sum-update (length w) q (λ p. get_or w p 0 * c p) (λ p. get_or (set w q u) p 0 * c p) h (λ p l ne. rw (get_or-set_other w q p u 0 ne))
    ∙ ap (λ (y : ℕ). sum (length w) (λ p. get_or w p 0 * c p) + y * c q) (get_or-set_same w q u 0 h))

pub weighted_sum-ext : (w : List ℕ) (f g : ℕ → ℕ) → ((p : ℕ) → f p ≡ g p) → weighted_sum w f ≡ weighted_sum w g
unfolding weighted_sum
weighted_sum-ext w f g h =
    sum-ext (length w) (λ p. get_or w p 0 * f p) (λ p. get_or w p 0 * g p) (λ p l. ap (λ (t : ℕ). get_or w p 0 * t) (h p))

pub length-tabulate : (k : ℕ) (f : ℕ → ℕ) → length (tabulate k f) ≡ k
unfolding tabulate
length-tabulate zero f = refl
length-tabulate (suc k) f = ap suc (length-tabulate k (λ i. f (suc i)))

pub get_d_tabulate : (k : ℕ) (f : ℕ → ℕ) (i : ℕ) → i < k → get_or (tabulate k f) i 0 ≡ f i
unfolding tabulate
get_d_tabulate zero f i h = absurd (omega arith)
get_d_tabulate (suc k) f zero h = refl
get_d_tabulate (suc k) f (suc i) h = get_d_tabulate k (λ j. f (suc j)) i (omega arith)

-- a list of zeros
pub get_or-zeros : (k i : ℕ) → ◌≡◌ {A = ℕ} (get_or (replicate k 0) i 0) 0
get_or-zeros zero i = refl
get_or-zeros (suc k) zero = refl
get_or-zeros (suc k) (suc i) = get_or-zeros k i

-- a part of a list is the end of a front of it
pub drop-take : (m n : ℕ) (t : List ℕ) → drop m (take (m + n) t) ≡ take n (drop m t)
drop-take zero n t = rw (zero-add n)
drop-take (suc m) n [] = rw (suc-add m n) (sym (take-nil n))
drop-take (suc m) n (b ∷ t) = rw (suc-add m n) (drop-take m n t)

-- ---- a table that a loop fills from the front

-- the first p entries of out are those of v
abbrev pub Filled : List ℕ → List ℕ → ℕ → Type 0
Filled out v p = (i : ℕ) → i < p → get_or out i 0 ≡ get_or v i 0

pub filled_next : (out v : List ℕ) (p x : ℕ) → p < length out → Filled out v p → x ≡ get_or v p 0 → Filled (set out p x) v (p + 1)
filled_next out v p x h f e i g = go (ℕ_discrete i p)
  where
    go : Dec (i ≡ p) → get_or (set out p x) i 0 ≡ get_or v i 0
    go (yes j) = rw j (get_or-set_same out p x 0 h ∙ e)
    go (no ne) = get_or-set_other out p i x 0 ne ∙ f i (omega arith)

pub filled_all : (out v : List ℕ) (p : ℕ) → length out ≡ length v → length v ≤ p → Filled out v p → out ≡ v
filled_all out v p e l f = ext_get_or 0 out v e (λ i h. f i (omega arith))

-- two additions in either order
pub add_at-comm : (m : ℕ) (w : List ℕ) (p u q v : ℕ) → add_at m (add_at m w p u) q v ≡ add_at m (add_at m w q v) p u
add_at-comm m [] p u q v = refl
add_at-comm m (x ∷ xs) zero u zero v = ap (λ (y : ℕ). y ∷ xs) (simp mod-add-mod (ap (λ (y : ℕ). y % m) (omega arith)))
add_at-comm m (x ∷ xs) zero u (suc q) v = refl
add_at-comm m (x ∷ xs) (suc p) u zero v = refl
add_at-comm m (x ∷ xs) (suc p) u (suc q) v = ap (λ (ys : List ℕ). x ∷ ys) (add_at-comm m xs p u q v)
