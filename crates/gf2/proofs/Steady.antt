-- A function of numbers that keeps its value from k to n, as what a loop has made so far does where it passes over numbers.
use mathlib.Core.Path.{◌∙◌, ◌≡◌, ap, refl, sym}
use Prim.Native.Nat.{◌+◌, ◌<◌, ◌≤◌, ℕ}
use native.Mathlib.Decide.{le_ind}
use native.Mathlib.Nat.{le_refl}
use native.Mathlib.Numerals.{add-one}
use native.Mathlib.Omega.{arith}

pub steady : {A : Type 0} (f : ℕ → A) (k n : ℕ) → k ≤ n → ((j : ℕ) → k ≤ j → j < n → f j ≡ f k → f (j + 1) ≡ f k) → f n ≡ f k
steady f k n l kept =
    le_ind (λ (m : ℕ). m ≤ n → f m ≡ f k) (λ h. refl) (λ m g e h. ap f (sym (add-one m)) ∙ kept m g h (e (omega arith))) n l (le_refl n)
