-- A number in two blocks, hi * 2 ^ k + lo: its size and its bits.
use mathlib.Core.Path.{◌∙◌, ◌≡◌, ap, sym}
use Prim.Native.Nat.{◌%◌, ◌*◌, ◌+◌, ◌-◌, ◌/◌, ◌<◌, ◌^◌, suc, ℕ}
use native.Mathlib.Omega.{arith}
use lib.Pow.{field, high, low, mod-mod-pow, pow-add, shr-shr}
use Rattle.gf2.specs.Bit.{bit}
use lib.Arith as numbers

pub blocks_lt : (j k hi lo : ℕ) → hi < 2 ^ j → lo < 2 ^ k → hi * 2 ^ k + lo < 2 ^ (j + k)
blocks_lt j k hi lo h l = rw (pow-add 2 j k) (numbers.digits_lt h l)

bit-mod : (x k t : ℕ) → t < k → bit (x % 2 ^ k) t ≡ bit x t
unfolding bit
bit-mod x k t l =
    let d : ℕ = k - suc t in
    let e : k ≡ (d + 1) + t = omega arith in
    ap (λ (m : ℕ). (x % 2 ^ m / 2 ^ t) % 2) e ∙ ap (λ (y : ℕ). y % 2) (field x (d + 1) t) ∙ mod-mod-pow (x / 2 ^ t) d 1

pub bit-low : (hi k lo t : ℕ) → lo < 2 ^ k → t < k → bit (hi * 2 ^ k + lo) t ≡ bit lo t
bit-low hi k lo t h l = sym (bit-mod (hi * 2 ^ k + lo) k t l) ∙ ap (λ (x : ℕ). bit x t) (low hi k h)

pub bit_up : (hi k lo t : ℕ) → lo < 2 ^ k → bit (hi * 2 ^ k + lo) (k + t) ≡ bit hi t
unfolding bit
bit_up hi k lo t h = ap (λ (x : ℕ). x % 2) (sym (shr-shr (hi * 2 ^ k + lo) k t) ∙ ap (λ (x : ℕ). x / 2 ^ t) (high hi k h))
