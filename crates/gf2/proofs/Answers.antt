-- The answers of tests.
use mathlib.Core.Bool.{Bool, false, not, true}
use mathlib.Core.Path.{◌≡◌}
use Prim.Native.Nat.{ℕ}
use native.Mathlib.Omega.{arith}
use lib.Dec.{eqb}
use borrow.Author.Tests.{eqb-false, eqb-true, not-false, not-true}
use Rattle.gf2.specs.Tests.{Decides}

-- nothing is said where the answer is no
pub never : {P : Type 0} → false ≡ true → P
never e = let z : ◌≡◌ {A = ℕ} 0 1 = cc in absurd (omega arith)

pub answer_yes : {P : Type 0} → P → Decides true P
answer_yes p = (λ e. p, λ e. let z : ◌≡◌ {A = ℕ} 0 1 = cc in absurd (omega arith))

pub answer_no : {P : Type 0} → (P → ⊥) → Decides false P
answer_no n = (never, λ e. n)

pub decides_equal : (a b : ℕ) → Decides (eqb a b) (a ≡ b)
decides_equal a b = (eqb-true a b, eqb-false a b)

-- from one question to another with the same answer
pub decides_as : {P Q : Type 0} {r : Bool} → (P → Q) → (Q → P) → Decides r P → Decides r Q
decides_as there back d = (λ e. there (d.0 e), λ e q. d.1 e (back q))

pub decides_not : {P : Type 0} {r : Bool} → Decides r P → Decides (not r) (P → ⊥)
decides_not {r = r} d = (λ e. d.1 (not-true r e), λ e n. n (d.0 (not-false r e)))
