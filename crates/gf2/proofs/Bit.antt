-- Bits of a number, and the machine's xor by them.
use mathlib.Core.Logic.{inl, inr, ◌≢◌, ◌⊎◌}
use mathlib.Core.Path.{ap, refl, sym, ◌∙◌, ◌≡◌}
use Prim.Native.Nat.{◌%◌, ◌*◌, ◌+◌, ◌/◌, ◌<◌, ◌^◌, min, suc, zero, ℕ}
use native.Mathlib.Nat.{div-eq_of_lt, div-one, one-mul, zero-div, zero-mul}
use native.Mathlib.Numerals.{one-add}
use native.Mathlib.Omega.{arith}
use lib.Bits.{and_shr, and_step, bit_and, bit_xor, xor_add_and, xor_shr}
use lib.Pow.{pow-lt, pow_mono, shr-shr}
use Rattle.gf2.specs.Bit.{bit}

pub bit-lt : (p i : ℕ) → bit p i < 2
unfolding bit
bit-lt p i = omega arith

-- a number below 2 is 0 or 1
pub bit-values : (x : ℕ) → x < 2 → (x ≡ 0) ⊎ (x ≡ 1)
bit-values zero h = inl refl
bit-values (suc zero) h = inr refl
bit-values (suc (suc x)) h = absurd (omega arith)

pub bit-zero : (p : ℕ) → bit p 0 ≡ p % 2
unfolding bit
bit-zero p = ap (λ (x : ℕ). x % 2) (div-one p)

pub bit-suc : (p i : ℕ) → bit p (suc i) ≡ bit (p / 2) i
unfolding bit
bit-suc p i = ap (λ (x : ℕ). x % 2) (sym (shr-shr p 1 i ∙ ap (λ (j : ℕ). p / 2 ^ j) (one-add i)))

pub bit-of_zero : (i : ℕ) → bit 0 i ≡ 0
unfolding bit
bit-of_zero i = rw zero-div

-- ---- xor, bit by bit
pub bit-xor : (a b i : ℕ) → bit (bit_xor a b) i ≡ (bit a i + bit b i) % 2
unfolding bit
bit-xor a b i = rw (xor_shr a b i) (omega (arith, xor_add_and (a / 2 ^ i) (b / 2 ^ i)))

-- and of and
pub bit-and : (a b i : ℕ) → bit (bit_and a b) i ≡ bit a i * bit b i
unfolding bit
bit-and a b i =
    rw (and_shr a b i, and_step (a / 2 ^ i) (b / 2 ^ i))
    (lowest-and (bit_and (a / 2 ^ i / 2) (b / 2 ^ i / 2)) (a / 2 ^ i % 2) (b / 2 ^ i % 2) (omega arith) (omega arith))
  where
    lowest-and : (q x y : ℕ) → x < 2 → y < 2 → (q * 2 + min x y) % 2 ≡ x * y
    lowest-and q zero y hx hy = omega arith
    lowest-and q (suc zero) zero hx hy = omega arith
    lowest-and q (suc zero) (suc zero) hx hy = omega arith
    lowest-and q (suc zero) (suc (suc y)) hx hy = absurd (omega arith)
    lowest-and q (suc (suc x)) y hx hy = absurd (omega arith)

pub bit-ext : (k a b : ℕ) → a < 2 ^ k → b < 2 ^ k → ((i : ℕ) → i < k → bit a i ≡ bit b i) → a ≡ b
bit-ext zero a b ha hb e = omega arith
bit-ext (suc k) a b ha hb e =
    let h : a / 2 ≡ b / 2 =
    bit-ext k (a / 2) (b / 2) (omega arith) (omega arith) (λ i l. sym (bit-suc a i) ∙ e (suc i) (omega arith) ∙ bit-suc b i) in
    let l : a % 2 ≡ b % 2 = sym (bit-zero a) ∙ e 0 (omega arith) ∙ bit-zero b in
    omega arith

pub lt_pow : (n : ℕ) → n < 2 ^ n
lt_pow zero = omega arith
lt_pow (suc n) = omega (arith, lt_pow n)

-- with no bound: two numbers with the same bits are equal
pub bit-eq : (a b : ℕ) → ((i : ℕ) → bit a i ≡ bit b i) → a ≡ b
bit-eq a b e =
    bit-ext (a + b) a b (omega (arith, lt_pow a, pow_mono {i = a} {j = a + b} (omega arith)))
    (omega (arith, lt_pow b, pow_mono {i = b} {j = a + b} (omega arith))) (λ i l. e i)

-- bit j of 2 ^ i
pow_half : (i : ℕ) → 2 ^ suc i / 2 ≡ 2 ^ i
pow_half i = omega arith

pub bit-pow_same : (i : ℕ) → bit (2 ^ i) i ≡ 1
bit-pow_same zero = bit-zero 1
bit-pow_same (suc i) = bit-suc (2 ^ suc i) i ∙ ap (λ (x : ℕ). bit x i) (pow_half i) ∙ bit-pow_same i

pub bit-pow_other : (i j : ℕ) → i ≢ j → bit (2 ^ i) j ≡ 0
bit-pow_other zero zero h = absurd (h refl)
bit-pow_other zero (suc j) h = bit-suc 1 j ∙ bit-of_zero j
bit-pow_other (suc i) zero h = bit-zero (2 ^ suc i) ∙ omega arith
bit-pow_other (suc i) (suc j) h = bit-suc (2 ^ suc i) j ∙ ap (λ (x : ℕ). bit x j) (pow_half i) ∙ bit-pow_other i j (λ e. h (ap suc e))

-- no bit from k on
pub bit_high : (k a : ℕ) → a < 2 ^ k → bit a k ≡ 0
unfolding bit
bit_high k a h = rw (div-eq_of_lt h)

pub bit-scale : (c q i : ℕ) → c < 2 → bit (c * q) i ≡ c * bit q i
bit-scale zero q i h = rw (zero-mul, zero-mul) (bit-of_zero i)
bit-scale (suc zero) q i h = rw (one-mul, one-mul)
bit-scale (suc (suc c)) q i h = absurd (omega arith)

pub mul_lt : (a b : ℕ) → a < 2 → b < 2 → a * b < 2
mul_lt zero b h k = omega arith
mul_lt (suc zero) b h k = omega arith
mul_lt (suc (suc a)) b h k = absurd (omega arith)

-- ---- numbers with two bits set, and with three, below n

pub two_lt : (n i j : ℕ) → i < j → j < n → 2 ^ i + 2 ^ j < 2 ^ n
two_lt n i j h k = omega (arith, pow-lt h, pow_mono {i = suc j} {j = n} k)

pub three_lt : (n i j k : ℕ) → i < j → j < k → k < n → 2 ^ i + 2 ^ j + 2 ^ k < 2 ^ n
three_lt n i j k h g f = omega (arith, two_lt k i j h g, pow_mono {i = suc k} {j = n} f)
