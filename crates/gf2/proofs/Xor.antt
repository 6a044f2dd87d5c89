-- Laws of xor on numbers, each by its bits; and that the or of two numbers is no less than either.
use mathlib.Core.Path.{ap, sym, ◌∙◌, ◌≡◌}
use Prim.Native.Nat.{◌%◌, ◌+◌, ◌≤◌, ℕ}
use native.Mathlib.Omega.{arith}
use lib.Bits.{and_le_l, and_le_r, bit_or, bit_xor, or_add_and, xor_add_and, xor_comm, xor_self, xor_zero_r}
use Rattle.gf2.proofs.Bit.{bit-eq, bit-xor}

pub xor_assoc : (a b c : ℕ) → bit_xor (bit_xor a b) c ≡ bit_xor a (bit_xor b c)
xor_assoc a b c = bit-eq _ _ (λ i. simp bit-xor (omega arith))

pub xor_cancel : (a b : ℕ) → bit_xor (bit_xor a b) b ≡ a
xor_cancel a b = rw (xor_assoc, xor_self, xor_zero_r)

pub xor_right_comm : (a b c : ℕ) → bit_xor (bit_xor a b) c ≡ bit_xor (bit_xor a c) b
xor_right_comm a b c = xor_assoc a b c ∙ ap (bit_xor a) (xor_comm b c) ∙ sym (xor_assoc a c b)

pub xor_mod2 : (s t : ℕ) → bit_xor s t % 2 ≡ (s % 2 + t % 2) % 2
xor_mod2 s t = omega (arith, xor_add_and s t)

pub or_left : (a b : ℕ) → a ≤ bit_or a b
or_left a b = omega (arith, or_add_and a b, and_le_r a b)

pub or_right : (a b : ℕ) → b ≤ bit_or a b
or_right a b = omega (arith, or_add_and a b, and_le_l a b)
