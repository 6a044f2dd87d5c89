-- Where no move is legal, at most n(n+1)/2 + 1 members are left:
-- of more members, n(n+1)/2 + 1 have product entries that depend on each other, and one is left over for b.
use mathlib.Core.List.{List, [], ◌++◌, ◌∷◌, map}
use mathlib.Core.Logic.{◌≢◌}
use mathlib.Core.Path.{◌∙◌, ◌≡◌, ap, refl, sym}
use Prim.Native.Nat.{◌%◌, ◌*◌, ◌+◌, ◌/◌, ◌<◌, ◌^◌, ◌≤◌, suc, suc-le-suc, zero, zero-le, ℕ}
use native.Mathlib.Decide.{dec_lt}
use native.Mathlib.Nat.{mul_comm, one-mul, zero-mul}
use native.Mathlib.Omega.{arith}
use lib.Bits.{bit_xor, xor_zero_l}
use lib.ListN.{get_or, length, take}
use lib.Seq.{length-take-le}
use Rattle.circuit.proofs.OddSet.{members_sum}
use Rattle.circuit.specs.OddSet.{Member, member_count}
use Rattle.circuit.specs.Sound.{SoundMarks, weight}
use Rattle.gf2.proofs.Bit.{bit-lt, bit-of_zero}
use Rattle.gf2.proofs.Dependence.{dependent}
use Rattle.gf2.proofs.Over.{below_map, length-sum_over, sum_over-cons, xor_all-map_bit, xor_all-zero}
use Rattle.gf2.specs.Bit.{bit}
use Rattle.gf2.specs.Over.{Below, sum_over, xor_all}
use Rattle.gf2.specs.Selection.{combine}
use Rattle.gf2.specs.Sum.{delta}
use Rattle.moves.proofs.Even.{Even, even_add, even_by, even_scale}
use Rattle.moves.proofs.Keep.{member_lt}
use Rattle.moves.proofs.Products.{product-bit, product_lt}
use Rattle.moves.proofs.Sets.{Rising, ascending, in_occ, listed_le, listed_length, listed_rising, occ, occ-below, rising_weaken}
use Rattle.moves.specs.Move.{Balanced, Legal, Movable, NoneLegal, triple}
use Rattle.moves.specs.Product.{product, tri}
use Rattle.moves.specs.Sets.{In, listed, only}

-- ---- even products of two bits make a set balanced, for every z

square : (b : ℕ) → b < 2 → b % 2 ≡ b * b % 2
square zero h = refl
square (suc zero) h = refl
square (suc (suc b)) h = absurd (omega arith)

spread : (a b c p q r : ℕ) → (a * b * c + p * q * c + r * q * b) % 2 % 2 ≡ (a * (b * c) + (p * (q * c) + r * (q * b))) % 2
spread a b c p q r = twice _ _ (omega arith)
  where
    twice : (x y : ℕ) → x ≡ y → x % 2 % 2 ≡ y % 2
    twice x y e = omega arith

products_balanced : (n z : ℕ) (Y : List ℕ) → Below (2 ^ n) Y → ((i j : ℕ) → i < n → j < n → Even (λ y. bit y i * bit y j) Y)
    → Balanced n z Y
products_balanced n z Y h e =
    record {
      zero_xor =
          xor_all-zero n Y h (λ i l. even_by (λ y. bit y i) (λ y. bit y i * bit y i) Y (λ y. square (bit y i) (bit-lt y i)) (e i i l l));
      triples =
          λ i j k l g f.
          let li : i < n = omega arith in
          let lj : j < n = omega arith in
          even_by (triple z i j k) (λ y. bit z i * (bit y j * bit y k) + (bit z j * (bit y i * bit y k) + bit z k * (bit y i * bit y j))) Y
          (λ y. spread (bit z i) (bit y j) (bit y k) (bit z j) (bit y i) (bit z k))
          (even_add (λ y. bit z i * (bit y j * bit y k)) (λ y. bit z j * (bit y i * bit y k) + bit z k * (bit y i * bit y j)) Y
          (even_scale (bit z i) (λ y. bit y j * bit y k) Y (e j k lj f))
          (even_add (λ y. bit z j * (bit y i * bit y k)) (λ y. bit z k * (bit y i * bit y j)) Y
          (even_scale (bit z j) (λ y. bit y i * bit y k) Y (e i k li f)) (even_scale (bit z k) (λ y. bit y i * bit y j) Y (e i j li lj))));
    }

-- and they are even where the xor of the product entries is 0
products_even : (n : ℕ) (Y : List ℕ) → xor_all (map (product n) Y) ≡ 0 → (i j : ℕ) → i < n → j < n → Even (λ y. bit y i * bit y j) Y
products_even n Y e i j li lj = go (dec_lt j i)
  where
    entry : (t : ℕ) → Even (λ y. bit (product n y) t) Y
    entry t = sym (xor_all-map_bit (product n) t Y) ∙ rw e (bit-of_zero t)

    go : Dec (j < i) → Even (λ y. bit y i * bit y j) Y
    go (yes l) =
        even_by (λ y. bit y i * bit y j) (λ y. bit (product n y) (tri i + j)) Y
        (λ y. ap (λ (x : ℕ). x % 2) (mul_comm (bit y i) (bit y j) ∙ sym (product-bit n y j i (omega arith) li))) (entry (tri i + j))
    go (no l) =
        even_by (λ y. bit y i * bit y j) (λ y. bit (product n y) (tri j + i)) Y
        (λ y. ap (λ (x : ℕ). x % 2) (sym (product-bit n y i j (omega arith) lj))) (entry (tri j + i))

-- ---- the numbers of a list whose places a mask names

unfoldable chosen : ℕ → List ℕ → List ℕ
chosen s [] = []
chosen s (y ∷ ys) = only (s % 2) y ++ chosen (s / 2) ys

first_rising : (b lo y : ℕ) (Y : List ℕ) → lo ≤ y → Rising (suc y) Y → Rising lo (only b y ++ Y)
unfolding only
first_rising zero lo y Y h r = rising_weaken lo (suc y) Y (omega arith) r
first_rising (suc b) lo y Y h r = (h, r)

first_sum : (b : ℕ) (c : ℕ → ℕ) (y : ℕ) (Y : List ℕ) → b < 2 → sum_over c (only b y ++ Y) ≡ b * c y + sum_over c Y
unfolding only
first_sum zero c y Y h = omega arith
first_sum (suc zero) c y Y h = sum_over-cons c y Y ∙ omega arith
first_sum (suc (suc b)) c y Y h = absurd (omega arith)

first_xor : (b : ℕ) (v : ℕ → ℕ) (y : ℕ) (Y : List ℕ) → b < 2 → xor_all (map v (only b y ++ Y)) ≡ bit_xor (b * v y) (xor_all (map v Y))
unfolding only xor_all
first_xor zero v y Y h = rw (zero-mul (v y)) (sym (xor_zero_l (xor_all (map v Y))))
first_xor (suc zero) v y Y h = rw (one-mul (v y))
first_xor (suc (suc b)) v y Y h = absurd (omega arith)

chosen_rising : (lo s : ℕ) (ys : List ℕ) → Rising lo ys → Rising lo (chosen s ys)
unfolding chosen
chosen_rising lo s [] r = tt
chosen_rising lo s (y ∷ ys) r = first_rising (s % 2) lo y (chosen (s / 2) ys) r.0 (chosen_rising (suc y) (s / 2) ys r.1)

-- each sum over them is at most that over all
chosen_sum : (s : ℕ) (c : ℕ → ℕ) (ys : List ℕ) → sum_over c (chosen s ys) ≤ sum_over c ys
unfolding chosen sum_over
chosen_sum s c [] = zero-le
chosen_sum s c (y ∷ ys) =
    rw (first_sum (s % 2) c y (chosen (s / 2) ys) (omega arith)) (less (s % 2) (c y) _ _ (omega arith) (chosen_sum (s / 2) c ys))
  where
    less : (b x t u : ℕ) → b < 2 → t ≤ u → b * x + t ≤ x + u
    less zero x t u h l = omega arith
    less (suc zero) x t u h l = omega arith
    less (suc (suc b)) x t u h l = absurd (omega arith)

chosen_xor : (s : ℕ) (v : ℕ → ℕ) (ys : List ℕ) → xor_all (map v (chosen s ys)) ≡ combine s (map v ys)
unfolding chosen combine xor_all
chosen_xor s v [] = refl
chosen_xor s v (y ∷ ys) = first_xor (s % 2) v y (chosen (s / 2) ys) (omega arith) ∙ ap (bit_xor (s % 2 * v y)) (chosen_xor (s / 2) v ys)

half_below : (k s : ℕ) → s < 2 ^ suc k → s / 2 < 2 ^ k
half_below k s h = omega arith

-- a mask that is not 0 chooses something
chosen_some : (s : ℕ) (ys : List ℕ) → s ≢ 0 → s < 2 ^ length ys → 1 ≤ sum_over (λ y. 1) (chosen s ys)
unfolding chosen
chosen_some s [] ne l = absurd (omega arith)
chosen_some s (y ∷ ys) ne l =
    rw (first_sum (s % 2) (λ y. 1) y (chosen (s / 2) ys) (omega arith)) (go (dec_lt 0 (s % 2)) (chosen_some (s / 2) ys))
  where
    go : Dec (0 < s % 2) → (s / 2 ≢ 0 → s / 2 < 2 ^ length ys → 1 ≤ sum_over (λ y. 1) (chosen (s / 2) ys))
        → 1 ≤ s % 2 * 1 + sum_over (λ y. 1) (chosen (s / 2) ys)
    go (yes h) r = omega arith
    go (no h) r = omega (arith, r (omega arith) (half_below (length ys) s l))

-- ---- a legal move where members crowd

take-rising : (lo k : ℕ) (Y : List ℕ) → Rising lo Y → Rising lo (take k Y)
take-rising lo zero Y r = tt
take-rising lo (suc k) [] r = tt
take-rising lo (suc k) (y ∷ Y) r = (r.0, take-rising (suc y) k Y r.1)

take-sum : (c : ℕ → ℕ) (k : ℕ) (Y : List ℕ) → sum_over c (take k Y) ≤ sum_over c Y
unfolding sum_over
take-sum c zero Y = zero-le
take-sum c (suc k) [] = zero-le
take-sum c (suc k) (y ∷ Y) = omega (arith, take-sum c k Y)

module _ (size n most : ℕ) (marks : List ℕ) (sound : SoundMarks size n marks) (enough : tri n + 1 ≤ most) where
  -- b a member, ys members above b, u a mask of those whose product entries xor to 0: these are a Y, with any a of it
  found : (b : ℕ) (ys : List ℕ) → Member marks b → Rising (suc b) ys → ((p : ℕ) → occ p ys ≤ weight marks p) → length ys ≤ most
      → (u : ℕ) → u ≢ 0 → u < 2 ^ length ys → combine u (map (product n) ys) ≡ 0 → Movable most n marks
  found b ys mb r o len u ne lu zeroes = record { z = bit_xor a b; Y = Y; legal = legal }
    where
      Y : List ℕ
      Y = chosen u ys

      a : ℕ
      a = get_or Y 0 0

      member : (y : ℕ) → In y Y → Member marks y
      member y t = omega (arith, in_occ y Y t, chosen_sum u (delta y) ys, o y, sound.bits y)

      in_a : In a Y
      in_a = (0, omega (arith, chosen_some u ys ne lu, length-sum_over Y), refl)

      legal : Legal most n marks (bit_xor a b) Y
      legal =
          record {
            few = omega (arith, length-sum_over Y, length-sum_over ys, chosen_sum u (λ y. 1) ys);
            ordered = ascending (suc b) Y (chosen_rising (suc b) u ys r);
            marked = member;
            separates =
                record {
                  a = a;
                  b = b;
                  a_in = in_a;
                  b_member = mb;
                  b_out = λ t. omega (arith, in_occ b Y t, chosen_sum u (delta b) ys, occ-below (suc b) b ys r (omega arith));
                  z_is = refl;
                };
            balanced =
                products_balanced n (bit_xor a b) Y
                (λ i l. member_lt size n marks sound (get_or Y i 0) (member (get_or Y i 0) (i, l, refl)))
                (products_even n Y (chosen_xor u (product n) ys ∙ zeroes));
          }

  -- more than tri n + 1 members: b is the first, ys the tri n + 1 that follow it
  crowded : (M : List ℕ) → Rising 0 M → ((p : ℕ) → occ p M ≤ weight marks p) → tri n + 1 < length M → Movable most n marks
  crowded [] r o l = absurd (omega arith)
  crowded (b ∷ M) r o l =
      let ys : List ℕ = take (suc (tri n)) M in
      let long : length ys ≡ suc (tri n) = length-take-le (suc (tri n)) M (omega arith) in
      let t = dependent (tri n) (map (product n) ys) (below_map (product n) (2 ^ tri n) ys (product_lt n)) in
      found b ys (omega (arith, in_occ b (b ∷ M) (0, suc-le-suc zero-le, refl), o b, sound.bits b))
      (take-rising (suc b) (suc (tri n)) M r.1)
      (λ p. omega (arith, take-sum (delta p) (suc (tri n)) M, sum_over-cons (delta p) b M, o p)) (omega arith)
      t.0 t.1 (rw long t.2) t.3

  pub bound : NoneLegal most n marks → member_count marks ≤ tri n + 1
  bound none = go (dec_lt (tri n + 1) (member_count marks))
    where
      f : ℕ → ℕ
      f p = weight marks p

      go : Dec (tri n + 1 < member_count marks) → member_count marks ≤ tri n + 1
      go (yes l) =
          let m : Movable most n marks =
          crowded (listed (length marks) f) (listed_rising (length marks) f) (listed_le f sound.bits (length marks))
          (rw (listed_length f sound.bits (length marks), ← (members_sum marks sound.bits)) l) in
          absurd (none m.z m.Y m.legal)
      go (no l) = omega arith
