-- The bits of a product entry, and the places j(j+1)/2 + i that they stand at.
use mathlib.Core.Path.{◌∙◌, ◌≡◌, ap, refl, sym}
use Prim.Native.Nat.{◌*◌, ◌+◌, ◌-◌, ◌/◌, ◌<◌, ◌^◌, ◌≤◌, suc, zero, ℕ}
use native.Mathlib.Decide.{dec_lt, ℕ_discrete}
use native.Mathlib.Nat.{le_refl}
use native.Mathlib.Omega.{arith}
use lib.Pow.{pow-add, pow_pos}
use Rattle.gf2.proofs.Bit.{bit-ext, bit-lt, mul_lt}
use Rattle.gf2.proofs.Blocks.{bit-low, bit_up, blocks_lt}
use Rattle.gf2.proofs.Digits.{bit-digits, digits_lt}
use Rattle.gf2.proofs.Leading.{bit-beyond}
use Rattle.gf2.proofs.Pairing.{sum-stop}
use Rattle.gf2.proofs.Sum.{sum-ext, sum-scale, sum-suc, sum-zero}
use Rattle.gf2.specs.Bit.{bit}
use Rattle.gf2.specs.Sum.{sum}
use Rattle.moves.specs.Product.{product, tri}

-- ---- places

pub tri_suc : (n : ℕ) → tri (suc n) ≡ suc n + tri n
unfolding tri
tri_suc n = omega arith

-- n(n+1)/2 is (n² + n)/2
pub tri_square : (n : ℕ) → tri n ≡ (n * n + n) / 2
unfolding tri
tri_square n = ap (λ (x : ℕ). x / 2) (omega arith)

pub tri_mono : (m n : ℕ) → m ≤ n → tri m ≤ tri n
tri_mono m zero h = let e : m ≡ 0 = omega arith in rw e (le_refl _)
tri_mono m (suc n) h = go (ℕ_discrete m (suc n)) (λ k. tri_mono m n k)
  where
    go : Dec (m ≡ suc n) → (m ≤ n → tri m ≤ tri n) → tri m ≤ tri (suc n)
    go (yes e) r = rw e (le_refl _)
    go (no ne) r = omega (arith, r (omega arith), tri_suc n)

-- the place of the pair i ≤ j < n is below tri n
pub place_lt : (n i j : ℕ) → i ≤ j → j < n → tri j + i < tri n
place_lt n i j h l = omega (arith, tri_suc j, tri_mono (suc j) n l)

-- and each number below tri n is the place of one
pub record Place (n t : ℕ) : Type 0 where
  pub i : ℕ
  pub j : ℕ
  pub i_le : i ≤ j
  pub j_lt : j < n
  pub is : t ≡ tri j + i

pub place : (n t : ℕ) → t < tri n → Place n t
place zero t h = absurd (none t h)
  where
    none : (t : ℕ) → t < tri 0 → ⊥
    none t h = omega (arith, tri_square 0)
place (suc n) t h = go (dec_lt t (tri n)) (place n t)
  where
    go : Dec (t < tri n) → (t < tri n → Place n t) → Place (suc n) t
    go (yes l) r = let q : Place n t = r l in record { i = q.i; j = q.j; i_le = q.i_le; j_lt = omega (arith, q.j_lt); is = q.is }
    go (no l) r = record { i = t - tri n; j = n; i_le = omega (arith, tri_suc n); j_lt = omega arith; is = omega arith }

-- ---- bits

-- row n of the entry: p_n times the bits 0 to n of p
row : ℕ → ℕ → ℕ
row n p = sum (suc n) (λ i. bit p i * bit p n * 2 ^ i)

row_digits : (n p : ℕ) (i : ℕ) → bit p i * bit p n < 2
row_digits n p i = mul_lt (bit p i) (bit p n) (bit-lt p i) (bit-lt p n)

row_lt : (n p : ℕ) → row n p < 2 ^ suc n
unfolding row
row_lt n p = digits_lt (λ i. bit p i * bit p n) (row_digits n p) (suc n)

row_bit : (n p i : ℕ) → i ≤ n → bit (row n p) i ≡ bit p i * bit p n
unfolding row
row_bit n p i l = bit-digits (λ i. bit p i * bit p n) (row_digits n p) (suc n) i (omega arith)

product-next : (n p : ℕ) → product (suc n) p ≡ row n p * 2 ^ tri n + product n p
unfolding product row
product-next n p =
    omega (
      arith,
      sum-suc n (λ j. sum (suc j) (λ i. bit p i * bit p j * 2 ^ (tri j + i))),
      sum-ext (suc n) (λ i. bit p i * bit p n * 2 ^ (tri n + i)) (λ i. 2 ^ tri n * (bit p i * bit p n * 2 ^ i))
          (λ i l. shift (bit p i * bit p n) (tri n) i),
      sum-scale (suc n) (2 ^ tri n) (λ i. bit p i * bit p n * 2 ^ i),
    )
  where
    shift : (b t i : ℕ) → b * 2 ^ (t + i) ≡ 2 ^ t * (b * 2 ^ i)
    shift b t i = rw (pow-add 2 t i) (omega arith)

product-zero : (p : ℕ) → product 0 p ≡ 0
unfolding product sum
product-zero p = refl

pub product_lt : (n p : ℕ) → product n p < 2 ^ tri n
product_lt zero p = rw (product-zero p) (pow_pos (tri 0))
product_lt (suc n) p = rw (product-next n p, tri_suc n) (blocks_lt (suc n) (tri n) (row n p) (product n p) (row_lt n p) (product_lt n p))

-- bit j(j+1)/2 + i is set when p names both i and j
pub product-bit : (n p i j : ℕ) → i ≤ j → j < n → bit (product n p) (tri j + i) ≡ bit p i * bit p j
product-bit zero p i j h l = absurd (omega arith)
product-bit (suc n) p i j h l = go (ℕ_discrete j n) (λ k. product-bit n p i j h k)
  where
    go : Dec (j ≡ n) → (j < n → bit (product n p) (tri j + i) ≡ bit p i * bit p j) → bit (product (suc n) p) (tri j + i) ≡ bit p i * bit p j
    go (yes e) r = rw (e, product-next n p) (bit_up (row n p) (tri n) (product n p) i (product_lt n p) ∙ row_bit n p i (omega arith))
    go (no ne) r =
        rw (product-next n p)
        (bit-low (row n p) (tri n) (product n p) (tri j + i) (product_lt n p) (place_lt n i j h (omega arith)) ∙ r (omega arith))

-- a number with this rule on bits is the entry
pub product-by_bits : (n p x : ℕ) → x < 2 ^ tri n → ((i j : ℕ) → i ≤ j → j < n → bit x (tri j + i) ≡ bit p i * bit p j) → x ≡ product n p
product-by_bits n p x l rule =
    bit-ext (tri n) x (product n p) l (product_lt n p)
    (λ t h.
    let s : Place n t = place n t h in
    rw s.is (rule s.i s.j s.i_le s.j_lt ∙ sym (product-bit n p s.i s.j s.i_le s.j_lt)))

-- wires that p does not name give nothing
pub product-wires : (n N p : ℕ) → n ≤ N → p < 2 ^ n → product N p ≡ product n p
unfolding product
product-wires n N p h l =
    sum-stop n N (λ j. sum (suc j) (λ i. bit p i * bit p j * 2 ^ (tri j + i))) h
    (λ j g.
    sum-ext (suc j) (λ i. bit p i * bit p j * 2 ^ (tri j + i)) (λ i. 0) (λ i k. rw (bit-beyond n p j l g) (omega arith)) ∙ sum-zero (suc j))
