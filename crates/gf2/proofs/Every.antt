-- A test that computes, carried to each number that it was computed at.
use mathlib.Core.Bool.{Bool, ◌||◌, false, true}
use mathlib.Core.Logic.{◌⊎◌, inl, inr}
use mathlib.Core.Path.{◌≡◌}
use Prim.Native.Nat.{◌<◌, suc, zero, ℕ}
use native.Mathlib.Decide.{ℕ_discrete}
use native.Mathlib.Nat.{le_refl}
use native.Mathlib.Omega.{arith}
use lib.Dec.{T}
use Rattle.gf2.proofs.Brute.{T-both}
use Rattle.gf2.specs.Every.{any, every}

T-either : (a b : Bool) → T (a || b) → T a ⊎ T b
T-either true b t = inl tt
T-either false b t = inr t

T-first : (a b : Bool) → T a → T (a || b)
T-first true b t = tt
T-first false b t = absurd t

T-second : (a b : Bool) → T b → T (a || b)
T-second true b t = tt
T-second false b t = t

pub every-at : (k : ℕ) (test : ℕ → Bool) → T (every k test) → (i : ℕ) → i < k → T (test i)
unfolding every
every-at zero test t i l = absurd (omega arith)
every-at (suc k) test t i l = go (ℕ_discrete i k) (λ h. every-at k test ((T-both (test k) (every k test)).0 t).1 i h)
  where
    go : Dec (i ≡ k) → (i < k → T (test i)) → T (test i)
    go (yes e) r = rw e ((T-both (test k) (every k test)).0 t).0
    go (no ne) r = r (omega arith)

pub at_every : (k : ℕ) (test : ℕ → Bool) → ((i : ℕ) → i < k → T (test i)) → T (every k test)
unfolding every
at_every zero test h = tt
at_every (suc k) test h = (T-both (test k) (every k test)).1 (h k (le_refl _), at_every k test (λ i l. h i (omega arith)))

pub any_at : (k : ℕ) (test : ℕ → Bool) → T (any k test) → (i : ℕ) × (i < k) × T (test i)
unfolding any
any_at zero test t = absurd t
any_at (suc k) test t = go (T-either (test k) (any k test) t) (any_at k test)
  where
    go : T (test k) ⊎ T (any k test) → (T (any k test) → (i : ℕ) × (i < k) × T (test i)) → (i : ℕ) × (i < suc k) × T (test i)
    go (inl h) r = (k, le_refl _, h)
    go (inr h) r = let s = r h in (s.0, omega (arith, s.1), s.2)

pub at_any : (k : ℕ) (test : ℕ → Bool) (i : ℕ) → i < k → T (test i) → T (any k test)
unfolding any
at_any zero test i l t = absurd (omega arith)
at_any (suc k) test i l t = go (ℕ_discrete i k) (λ h. at_any k test i h t)
  where
    go : Dec (i ≡ k) → (i < k → T (any k test)) → T (test k || any k test)
    go (yes e) r = T-first (test k) (any k test) (rw (← e) t)
    go (no ne) r = T-second (test k) (any k test) (r (omega arith))
