-- Combinations: a mask selects, masks add by xor, and what a change of one place does to every combination.
use mathlib.Core.List.{List, [], ◌∷◌}
use mathlib.Core.Logic.{◌≢◌}
use mathlib.Core.Path.{ap, refl, sym, ◌∙◌, ◌≡◌}
use Prim.Native.Nat.{◌%◌, ◌*◌, ◌+◌, ◌/◌, ◌<◌, ◌^◌, suc, zero, ℕ}
use native.Mathlib.Nat.{mod-eq_of_lt, mod-lt, mod-one, one-mul, zero-mul}
use native.Mathlib.Numerals.{one-add}
use native.Mathlib.Omega.{arith}
use lib.Bits.{bit_xor, xor_comm, xor_lt, xor_self, xor_shifted, xor_shr, xor_zero_r}
use lib.ListN.{get_or, length, set}
use lib.Pow.{mod-pow-add, pow_pos}
use Rattle.gf2.proofs.Bit.{bit-lt, bit-of_zero, bit-scale, bit-suc, bit-xor, bit-zero}
use Rattle.gf2.proofs.Xor.{xor_assoc, xor_cancel, xor_mod2, xor_right_comm}
use Rattle.gf2.specs.Bit.{bit}
use Rattle.gf2.specs.Selection.{combine}

pub scale_sum : (a b y : ℕ) → a < 2 → b < 2 → (a + b) % 2 * y ≡ bit_xor (a * y) (b * y)
scale_sum zero zero y ha hb = rw zero-mul
scale_sum zero (suc zero) y ha hb = rw zero-mul
scale_sum (suc zero) zero y ha hb = rw (zero-mul, xor_zero_r)
scale_sum (suc zero) (suc zero) y ha hb = rw (xor_self, zero-mul)
scale_sum zero (suc (suc b)) y ha hb = absurd (omega arith)
scale_sum (suc zero) (suc (suc b)) y ha hb = absurd (omega arith)
scale_sum (suc (suc a)) b y ha hb = absurd (omega arith)

pub combine-xor : (s t : ℕ) (ys : List ℕ) → combine (bit_xor s t) ys ≡ bit_xor (combine s ys) (combine t ys)
unfolding combine
combine-xor s t [] = refl
combine-xor s t (y ∷ ys) =
    rw (xor_mod2 s t, scale_sum (s % 2) (t % 2) y (omega arith) (omega arith), xor_shr s t 1, combine-xor (s / 2) (t / 2) ys)
    (simp (xor_assoc, xor_comm))

pub combine-none : (ys : List ℕ) → combine 0 ys ≡ 0
unfolding combine
combine-none [] = refl
combine-none (y ∷ ys) = rw (zero-mul y) (combine-none ys)

-- the mask of one element
pub combine-one : (t : ℕ) (ys : List ℕ) → combine (2 ^ t) ys ≡ get_or ys t 0
unfolding combine
combine-one zero [] = refl
combine-one (suc t) [] = refl
combine-one zero (y ∷ ys) = rw (one-mul y, combine-none ys, xor_zero_r)
combine-one (suc t) (y ∷ ys) =
    let e : 2 ^ suc t % 2 ≡ 0 = omega arith in
    let d : 2 ^ suc t / 2 ≡ 2 ^ t = omega arith in
    rw (e, d, zero-mul y) (combine-one t ys)

pub scale_lt : (c y b : ℕ) → c < 2 → y < b → c * y < b
scale_lt zero y b h l = omega arith
scale_lt (suc zero) y b h l = omega arith
scale_lt (suc (suc c)) y b h l = absurd (omega arith)

pub scale_xor : (c y v : ℕ) → c < 2 → c * bit_xor y v ≡ bit_xor (c * y) (c * v)
scale_xor zero y v h = rw (zero-mul, zero-mul, zero-mul)
scale_xor (suc zero) y v h = rw (one-mul, one-mul, one-mul)
scale_xor (suc (suc c)) y v h = absurd (omega arith)

pub combine-scale : (c q : ℕ) (ys : List ℕ) → c < 2 → combine (c * q) ys ≡ c * combine q ys
combine-scale zero q ys h = rw (zero-mul, zero-mul) (combine-none ys)
combine-scale (suc zero) q ys h = rw (one-mul, one-mul)
combine-scale (suc (suc c)) q ys h = absurd (omega arith)

pub combine-set : (s b v : ℕ) (ys : List ℕ) → b < length ys
    → combine s (set ys b (bit_xor (get_or ys b 0) v)) ≡ bit_xor (combine s ys) (bit s b * v)
unfolding combine
combine-set s b v [] h = absurd (omega arith)
combine-set s zero v (y ∷ ys) h =
    rw (bit-zero s, scale_xor (s % 2) y v (omega arith)) (xor_right_comm (s % 2 * y) (s % 2 * v) (combine (s / 2) ys))
combine-set s (suc b) v (y ∷ ys) h =
    rw (bit-suc s b, combine-set (s / 2) b v ys (omega arith)) (sym (xor_assoc (s % 2 * y) (combine (s / 2) ys) (bit (s / 2) b * v)))

-- the mask s after "place t goes to each place of q": a combination of the changed list is one of the list before
abbrev pub remask : ℕ → ℕ → ℕ → ℕ
remask t q s = bit_xor s (bit s t * q)

pub combine-add : (s t q : ℕ) (ys : List ℕ) → t < length ys
    → combine s (set ys t (bit_xor (get_or ys t 0) (combine q ys))) ≡ combine (remask t q s) ys
combine-add s t q ys h =
    combine-set s t (combine q ys) ys h
    ∙ sym (combine-xor s (bit s t * q) ys ∙ ap (bit_xor (combine s ys)) (combine-scale (bit s t) q ys (bit-lt s t)))

module _ (t q : ℕ) (off : bit q t ≡ 0) where
  pub remask_kept : (s : ℕ) → bit (remask t q s) t ≡ bit s t
  remask_kept s = rw (bit-xor s (bit s t * q) t, bit-scale (bit s t) q t (bit-lt s t), off) (omega (arith, bit-lt s t))

  -- an involution
  pub remask_twice : (s : ℕ) → remask t q (remask t q s) ≡ s
  remask_twice s = rw (remask_kept s) (xor_cancel s (bit s t * q))

  pub remask_zero : remask t q 0 ≡ 0
  remask_zero = rw (bit-of_zero t) (zero-mul q)

  pub remask_nonzero : (s : ℕ) → s ≢ 0 → remask t q s ≢ 0
  remask_nonzero s h e = h (sym (remask_twice s) ∙ ap (remask t q) e ∙ remask_zero)

pub remask_lt : (n t q s : ℕ) → q < 2 ^ n → s < 2 ^ n → remask t q s < 2 ^ n
remask_lt n t q s hq hs = xor_lt n s (bit s t * q) hs (scale_lt (bit s t) q (2 ^ n) (bit-lt s t) hq)

pub mod_next : (s k : ℕ) → s % 2 ^ suc k ≡ bit_xor (s % 2 ^ k) (bit s k * 2 ^ k)
unfolding bit
mod_next s k =
    ap (λ (j : ℕ). s % 2 ^ j) (sym (one-add k)) ∙ mod-pow-add s 1 k
    ∙ sym (xor_comm (s % 2 ^ k) (s / 2 ^ k % 2 * 2 ^ k) ∙ xor_shifted (s / 2 ^ k % 2) k (s % 2 ^ k) (mod-lt s (pow_pos k)))

pub combine-next : (s k : ℕ) (ys : List ℕ) → combine (s % 2 ^ suc k) ys ≡ bit_xor (combine (s % 2 ^ k) ys) (bit s k * get_or ys k 0)
combine-next s k ys =
    ap (λ (m : ℕ). combine m ys) (mod_next s k) ∙ combine-xor (s % 2 ^ k) (bit s k * 2 ^ k) ys
    ∙ ap (bit_xor (combine (s % 2 ^ k) ys))
    (combine-scale (bit s k) (2 ^ k) ys (bit-lt s k) ∙ ap (λ (y : ℕ). bit s k * y) (combine-one k ys))

pub combine-first : (s : ℕ) (ys : List ℕ) → combine (s % 2 ^ 0) ys ≡ 0
combine-first s ys = rw (mod-one s) (combine-none ys)

-- where place i holds 2 ^ i, a combination is its mask
pub combine-units_mod : (k s : ℕ) (ys : List ℕ) → ((i : ℕ) → i < k → get_or ys i 0 ≡ 2 ^ i) → combine (s % 2 ^ k) ys ≡ s % 2 ^ k
combine-units_mod zero s ys h = combine-first s ys ∙ sym (mod-one s)
combine-units_mod (suc k) s ys h =
    rw (combine-next s k ys, combine-units_mod k s ys (λ i l. h i (omega arith)), h k (omega arith), mod_next s k)

pub combine-units : (n s : ℕ) (ys : List ℕ) → s < 2 ^ n → ((i : ℕ) → i < n → get_or ys i 0 ≡ 2 ^ i) → combine s ys ≡ s
combine-units n s ys l h = let e : s % 2 ^ n ≡ s = mod-eq_of_lt l in rw e at (combine-units_mod n s ys h)
