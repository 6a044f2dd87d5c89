-- For one z, "the xor of Y is 0 and every triple condition holds" is two xors: that of Y, and that of its columns, or of the pairs of wires
-- of its bars.
use mathlib.Core.List.{List, map}
use mathlib.Core.Logic.{◌↔◌}
use mathlib.Core.Path.{◌∙◌, ◌≡◌, ap, sym}
use Prim.Native.Nat.{◌%◌, ◌*◌, ◌+◌, ◌<◌, ◌^◌, ◌≤◌, ℕ}
use native.Mathlib.Decide.{dec_lt}
use native.Mathlib.Nat.{mul_comm}
use native.Mathlib.Omega.{arith}
use lib.Bits.{xor_lt}
use lib.ListN.{get_or}
use lib.Pow.{pow_pos}
use Rattle.gf2.proofs.Bit.{bit-ext, bit-lt, bit-of_zero, bit-scale, bit-xor}
use Rattle.gf2.proofs.Over.{below_map, xor_all-lt, xor_all-map_bit}
use Rattle.gf2.proofs.Selection.{scale_lt}
use Rattle.gf2.proofs.Brute.{brute6, brute7}
use Rattle.gf2.proofs.Copies.{pairs_even}
use Rattle.gf2.specs.Bit.{bit}
use Rattle.gf2.specs.Over.{Below, sum_over, xor_all}
use Rattle.moves.proofs.Even.{Even, even_add, even_bit, even_by, even_scale, triples_all}
use Rattle.moves.proofs.Products.{Place, place, product-bit, product_lt}
use Rattle.moves.specs.Column.{bar, bar_pairs, column}
use Rattle.moves.specs.Move.{Balanced, triple}
use Rattle.moves.specs.Product.{tri}

pub bar_bit : (z t y i : ℕ) → bit (bar z t y) i ≡ (bit y i + bit y t * bit z i) % 2
unfolding bar
bar_bit z t y i = bit-xor y (bit y t * z) i ∙ ap (λ (x : ℕ). (bit y i + x) % 2) (bit-scale (bit y t) z i (bit-lt y t))

pub bar_lt : (n z t y : ℕ) → z < 2 ^ n → y < 2 ^ n → bar z t y < 2 ^ n
unfolding bar
bar_lt n z t y h l = xor_lt n y (bit y t * z) l (scale_lt (bit y t) z (2 ^ n) (bit-lt y t) h)

pub column_lt : (n z t y : ℕ) → column n z t y < 2 ^ tri n
unfolding column
column_lt n z t y = product_lt n (bar z t y)

-- the bit of a column at the place of i ≤ j
pub column_bit : (n z t y i j : ℕ) → i ≤ j → j < n → bit (column n z t y) (tri j + i) ≡ bit (bar z t y) i * bit (bar z t y) j
unfolding column
column_bit n z t y i j h l = product-bit n (bar z t y) i j h l

-- ---- the arithmetic of one y: s, a, b, c are its bits t, i, j, k, and p, q, r the bits i, j, k of z
-- a product of two bits of bar y, by the triple of t
two_bits : (s a b p q : ℕ) → s < 2 → a < 2 → b < 2 → p < 2 → q < 2
    → (a + s * p) % 2 * ((b + s * q) % 2) % 2 ≡ ((1 * a * b + p * s * b + q * s * a) % 2 + p * q * s) % 2
two_bits s a b p q hs ha hb hp hq =
    brute6 (λ s a b p q u. (a + s * p) % 2 * ((b + s * q) % 2) % 2)
    (λ s a b p q u. ((1 * a * b + p * s * b + q * s * a) % 2 + p * q * s) % 2) tt s a b p q 0 hs ha hb
    hp hq (omega arith)

-- a triple, by products of two bits of bar y
three_bits : (s a b c p q r : ℕ) → s < 2 → a < 2 → b < 2 → c < 2 → p < 2 → q < 2 → r < 2
    → (p * b * c + q * a * c + r * a * b) % 2 % 2
    ≡ (p * ((b + s * q) % 2 * ((c + s * r) % 2))
    + (q * ((a + s * p) % 2 * ((c + s * r) % 2)) + (r * ((a + s * p) % 2 * ((b + s * q) % 2)) + p * q * r * s))) % 2
three_bits =
    brute7 (λ s a b c p q r. (p * b * c + q * a * c + r * a * b) % 2 % 2)
    (λ s a b c p q r.
    (p * ((b + s * q) % 2 * ((c + s * r) % 2))
    + (q * ((a + s * p) % 2 * ((c + s * r) % 2)) + (r * ((a + s * p) % 2 * ((b + s * q) % 2)) + p * q * r * s))) % 2) tt

module _ (n z t : ℕ) (t_lt : t < n) (z_t : bit z t ≡ 1) (Y : List ℕ) where
  -- the product of bits i and j of bar y
  abbrev bb : ℕ → ℕ → ℕ → ℕ
  bb i j y = bit (bar z t y) i * bit (bar z t y) j

  of_map : (u : ℕ) → bit (xor_all (map (column n z t) Y)) u ≡ sum_over (λ y. bit (column n z t y) u) Y % 2
  of_map u = xor_all-map_bit (column n z t) u Y

  -- ---- where each two bits of the bars have an even number of products, Y is balanced
  module _ (zero_xor : xor_all Y ≡ 0) (bb_even : (i j : ℕ) → i < n → j < n → Even (bb i j) Y) where
    triple_even : (i j k : ℕ) → i < n → j < n → k < n → Even (triple z i j k) Y
    triple_even i j k li lj lk =
        let p : ℕ = bit z i in
        let q : ℕ = bit z j in
        let r : ℕ = bit z k in
        even_by (triple z i j k) (λ y. p * bb j k y + (q * bb i k y + (r * bb i j y + p * q * r * bit y t))) Y
        (λ y. rw (bar_bit z t y i, bar_bit z t y j, bar_bit z t y k)
        (three_bits (bit y t) (bit y i) (bit y j) (bit y k) p q r
        (bit-lt y t) (bit-lt y i) (bit-lt y j) (bit-lt y k) (bit-lt z i) (bit-lt z j) (bit-lt z k)))
        (even_add (λ y. p * bb j k y) (λ y. q * bb i k y + (r * bb i j y + p * q * r * bit y t)) Y
        (even_scale p (bb j k) Y (bb_even j k lj lk))
        (even_add (λ y. q * bb i k y) (λ y. r * bb i j y + p * q * r * bit y t) Y (even_scale q (bb i k) Y (bb_even i k li lk))
        (even_add (λ y. r * bb i j y) (λ y. p * q * r * bit y t) Y (even_scale r (bb i j) Y (bb_even i j li lj))
        (even_scale (p * q * r) (λ y. bit y t) Y (even_bit Y zero_xor t)))))

    balanced : Balanced n z Y
    balanced = record { zero_xor = zero_xor; triples = λ i j k l g f. triple_even i j k (omega arith) (omega arith) f }

  -- ---- and where Y is balanced, they have
  module _ (b : Balanced n z Y) where
    bb_balanced : (i j : ℕ) → i < n → j < n → Even (bb i j) Y
    bb_balanced i j li lj =
        let p : ℕ = bit z i in
        let q : ℕ = bit z j in
        even_by (bb i j) (λ y. triple z t i j y + p * q * bit y t) Y
        (λ y. rw (bar_bit z t y i, bar_bit z t y j, z_t)
        (two_bits (bit y t) (bit y i) (bit y j) p q (bit-lt y t) (bit-lt y i) (bit-lt y j) (bit-lt z i) (bit-lt z j)))
        (even_add (triple z t i j) (λ y. p * q * bit y t) Y (triples_all n z Y b t i j t_lt li lj)
        (even_scale (p * q) (λ y. bit y t) Y (even_bit Y b.zero_xor t)))

  -- Y is balanced exactly if its xor is 0 and each two bits of the bars have an even number of products
  evens_iff : Balanced n z Y ↔ ((xor_all Y ≡ 0) × ((i j : ℕ) → i < n → j < n → Even (bb i j) Y))
  evens_iff = (λ b. (b.zero_xor, bb_balanced b), λ e. balanced e.0 e.1)

  -- ---- the products as they stand in the columns
  bb_columns : xor_all (map (column n z t) Y) ≡ 0 → (i j : ℕ) → i < n → j < n → Even (bb i j) Y
  bb_columns zeroes i j li lj = go (dec_lt j i)
    where
      bb_up : (i j : ℕ) → i ≤ j → j < n → Even (bb i j) Y
      bb_up i j h l =
          even_by (bb i j) (λ y. bit (column n z t y) (tri j + i)) Y (λ y. ap (λ (x : ℕ). x % 2) (sym (column_bit n z t y i j h l)))
          (sym (of_map (tri j + i)) ∙ rw zeroes (bit-of_zero (tri j + i)))

      go : Dec (j < i) → Even (bb i j) Y
      go (yes l) =
          even_by (bb i j) (bb j i) Y (λ y. ap (λ (x : ℕ). x % 2) (mul_comm (bit (bar z t y) i) (bit (bar z t y) j)))
          (bb_up j i (omega arith) li)
      go (no l) = bb_up i j (omega arith) lj

  module _ (even : (i j : ℕ) → i < n → j < n → Even (bb i j) Y) where
    zero_bits : (u : ℕ) → u < tri n → Even (λ y. bit (column n z t y) u) Y
    zero_bits u l =
        let s : Place n u = place n u l in
        rw s.is
        (even_by (λ y. bit (column n z t y) (tri s.j + s.i)) (bb s.i s.j) Y
        (λ y. ap (λ (x : ℕ). x % 2) (column_bit n z t y s.i s.j s.i_le s.j_lt))
        (even s.i s.j (omega (arith, s.i_le, s.j_lt)) s.j_lt))

    columns_zero : xor_all (map (column n z t) Y) ≡ 0
    columns_zero =
        bit-ext (tri n) (xor_all (map (column n z t) Y)) 0
        (xor_all-lt (tri n) (map (column n z t) Y) (below_map (column n z t) (2 ^ tri n) Y (λ y. column_lt n z t y))) (pow_pos (tri n))
        (λ u l. of_map u ∙ zero_bits u l ∙ sym (bit-of_zero u))

  pub balanced_iff : Balanced n z Y ↔ ((xor_all Y ≡ 0) × (xor_all (map (column n z t) Y) ≡ 0))
  balanced_iff = (
    λ b. let e = evens_iff.0 b in (e.0, columns_zero e.1),
    λ e. evens_iff.1 (e.0, bb_columns e.1),
  )

  -- ---- and as copies of the bars have them
  pub balanced_pairs : z < 2 ^ n → Below (2 ^ n) Y → Balanced n z Y ↔ ((xor_all Y ≡ 0) × (xor_all (map (bar_pairs n z t) Y) ≡ 0))
  unfolding bar_pairs
  balanced_pairs fits below =
      let same = pairs_even n (bar z t) Y (λ i l. bar_lt n z t (get_or Y i 0) fits (below i l)) in (
        λ b. let e = evens_iff.0 b in (e.0, same.1 e.1),
        λ e. evens_iff.1 (e.0, same.0 e.1),
      )
