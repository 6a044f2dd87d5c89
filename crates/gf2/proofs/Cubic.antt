-- What y ↦ y xor z does to a product of three bits, summed over a list:
-- the sum stays even where the xor of the list is 0 and the terms with one bit of z are even.
use mathlib.Core.List.{List}
use mathlib.Core.Path.{◌∙◌, ◌≡◌, ap, ap₂, sym}
use Prim.Native.Nat.{◌%◌, ◌*◌, ◌+◌, ◌<◌, ℕ}
use native.Mathlib.Omega.{arith}
use lib.Bits.{bit_xor}
use lib.ListN.{length}
use Rattle.gf2.proofs.Bit.{bit-lt, bit-of_zero, bit-xor}
use Rattle.gf2.proofs.Modular.{even_mul}
use Rattle.gf2.proofs.Over.{sum_over-add, sum_over-const, sum_over-mod, sum_over-scale, xor_all-bit}
use Rattle.gf2.proofs.Brute.{brute6}
use Rattle.gf2.specs.Bit.{bit}
use Rattle.gf2.specs.Over.{sum_over, xor_all}

-- one y: a b c are its bits, p q r those of z
cube : (a b c p q r : ℕ) → a < 2 → b < 2 → c < 2 → p < 2 → q < 2 → r < 2
    → (a * b * c + (a + p) % 2 * ((b + q) % 2) * ((c + r) % 2)) % 2
    ≡ ((p * b * c + q * a * c + r * a * b) % 2 + (p * q * c + (p * r * b + q * r * a)) + p * q * r) % 2
cube =
    brute6 (λ a b c p q r. (a * b * c + (a + p) % 2 * ((b + q) % 2) * ((c + r) % 2)) % 2)
    (λ a b c p q r. ((p * b * c + q * a * c + r * a * b) % 2 + (p * q * c + (p * r * b + q * r * a)) + p * q * r) % 2) tt

even3 : (a b c : ℕ) → a % 2 ≡ 0 → b % 2 ≡ 0 → c % 2 ≡ 0 → (a + (b + c)) % 2 ≡ 0
even3 a b c h i j = omega arith

close : (c q l n : ℕ) → c % 2 ≡ (q + l + n) % 2 → q % 2 ≡ 0 → l % 2 ≡ 0 → (c + n) % 2 ≡ 0
close c q l n h i j = omega arith

module _ (z i j k : ℕ) where
  -- the terms with one bit of z
  abbrev pub quad : ℕ → ℕ
  quad y = (bit z i * bit y j * bit y k + bit z j * bit y i * bit y k + bit z k * bit y i * bit y j) % 2

  -- the product at y and at y xor z
  abbrev pub cub : ℕ → ℕ
  cub y = bit y i * bit y j * bit y k + bit (bit_xor y z) i * bit (bit_xor y z) j * bit (bit_xor y z) k

  -- the terms with two bits of z
  lin : ℕ → ℕ
  lin y = bit z i * bit z j * bit y k + (bit z i * bit z k * bit y j + bit z j * bit z k * bit y i)

  cub_mod : (y : ℕ) → cub y % 2 ≡ (quad y + lin y + bit z i * bit z j * bit z k) % 2
  unfolding lin
  cub_mod y =
      rw (bit-xor y z i, bit-xor y z j, bit-xor y z k)
      (cube (bit y i) (bit y j) (bit y k) (bit z i) (bit z j) (bit z k)
      (bit-lt y i) (bit-lt y j) (bit-lt y k) (bit-lt z i) (bit-lt z j) (bit-lt z k))

  even_bits : (ys : List ℕ) → xor_all ys ≡ 0 → (t : ℕ) → sum_over (λ y. bit y t) ys % 2 ≡ 0
  even_bits ys h t = sym (xor_all-bit t ys) ∙ rw h (bit-of_zero t)

  even_lin : (ys : List ℕ) → xor_all ys ≡ 0 → sum_over lin ys % 2 ≡ 0
  unfolding lin
  even_lin ys h =
      let A : ℕ = bit z i * bit z j in
      let B : ℕ = bit z i * bit z k in
      let C : ℕ = bit z j * bit z k in
      ap (λ (n : ℕ). n % 2)
      (sum_over-add (λ y. A * bit y k) (λ y. B * bit y j + C * bit y i) ys
      ∙ ap₂ (λ (m n : ℕ). m + n) (sum_over-scale A (λ y. bit y k) ys)
      (sum_over-add (λ y. B * bit y j) (λ y. C * bit y i) ys
      ∙ ap₂ (λ (m n : ℕ). m + n) (sum_over-scale B (λ y. bit y j) ys) (sum_over-scale C (λ y. bit y i) ys)))
      ∙ even3 (A * sum_over (λ y. bit y k) ys) (B * sum_over (λ y. bit y j) ys) (C * sum_over (λ y. bit y i) ys)
      (even_mul A _ (even_bits ys h k)) (even_mul B _ (even_bits ys h j)) (even_mul C _ (even_bits ys h i))

  pub cubic : (ys : List ℕ) → xor_all ys ≡ 0 → sum_over quad ys % 2 ≡ 0
      → (sum_over cub ys + length ys * (bit z i * bit z j * bit z k)) % 2 ≡ 0
  cubic ys hx hq =
      let Z : ℕ = bit z i * bit z j * bit z k in
      close (sum_over cub ys) (sum_over quad ys) (sum_over lin ys) (length ys * Z)
      (sum_over-mod 2 cub (λ y. quad y + lin y + Z) cub_mod ys
      ∙ ap (λ (n : ℕ). n % 2)
      (sum_over-add (λ y. quad y + lin y) (λ y. Z) ys ∙ ap₂ (λ (m n : ℕ). m + n) (sum_over-add quad lin ys) (sum_over-const Z ys)))
      hq (even_lin ys hx)
