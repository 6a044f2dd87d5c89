-- Remainders, for what `omega` does not close: hand it the quotient (`is_mod`, `mod_by`, `cong_by`), or go by congruence.
use mathlib.Core.Path.{ap, sym, ◌∙◌, ◌≡◌}
use Prim.Native.Nat.{◌%◌, ◌*◌, ◌+◌, ◌/◌, ◌<◌, ℕ}
use native.Mathlib.Nat.{add_comm, add-mod, div-add-mod', mul-add-mod_self_right, mul-zero}
use native.Mathlib.Omega.{arith}
use lib.Arith.{digits_mod}

-- a remainder by a quotient that is written: what is left for `omega` is one equation
pub is_mod : (m q r x : ℕ) → x ≡ q * m + r → r < m → x % m ≡ r
is_mod m q r x e l = rw e (digits_mod q l)

pub mod_by : (m q r x : ℕ) → x ≡ q * m + r → x % m ≡ r % m
mod_by m q r x e = rw e (mul-add-mod_self_right q m r)

pub mul_mod_l : (m x y : ℕ) → x % m * y % m ≡ x * y % m
mul_mod_l m x y = sym (mod_by m (x / m * y) (x % m * y) (x * y) (omega (arith, ap (λ (n : ℕ). n * y) (div-add-mod' x m))))

pub mul_mod_r : (m x y : ℕ) → x * (y % m) % m ≡ x * y % m
mul_mod_r m x y = sym (mod_by m (x * (y / m)) (x * (y % m)) (x * y) (omega (arith, ap (λ (n : ℕ). x * n) (div-add-mod' y m))))

pub add_cong : (m a b c d : ℕ) → a % m ≡ b % m → c % m ≡ d % m → (a + c) % m ≡ (b + d) % m
add_cong m a b c d h k = rw (add-mod a c m, add-mod b d m, h, k)

pub mul_cong : (m a s t : ℕ) → s % m ≡ t % m → a * s % m ≡ a * t % m
mul_cong m a s t h = sym (mul_mod_r m a s) ∙ ap (λ (y : ℕ). a * y % m) h ∙ mul_mod_r m a t

pub even_mul : (a s : ℕ) → s % 2 ≡ 0 → a * s % 2 ≡ 0
even_mul a s h = mul_cong 2 a s 0 h ∙ rw mul-zero

-- congruent, by quotients that are written: one linear equation is left
pub cong_by : (m s t x y : ℕ) → x + s * m ≡ y + t * m → x % m ≡ y % m
cong_by m s t x y e =
    sym (mod_by m s x (x + s * m) (add_comm x (s * m))) ∙ ap (λ (z : ℕ). z % m) e ∙ mod_by m t y (y + t * m) (add_comm y (t * m))
