-- The products of two bits by copies: which bit stands where in copies of a number, and that the xor of such products over a list is 0
-- exactly where each two bits have an even number of products.
use mathlib.Core.List.{List, map}
use mathlib.Core.Logic.{◌↔◌}
use mathlib.Core.Path.{◌∙◌, ◌≡◌, ap, ap₂, sym}
use Prim.Native.Nat.{◌%◌, ◌*◌, ◌+◌, ◌-◌, ◌/◌, ◌<◌, ◌^◌, ◌≤◌, suc, zero, ℕ}
use native.Mathlib.Decide.{dec_lt, ℕ_discrete}
use native.Mathlib.Nat.{mul_comm}
use native.Mathlib.Omega.{arith}
use lib.ListN.{get_or, length}
use lib.Pow.{pow_mono, pow_pos}
use Rattle.gf2.proofs.Bit.{bit-and, bit-eq, bit-of_zero}
use Rattle.gf2.proofs.Blocks.{bit-low, bit_up, blocks_lt}
use Rattle.gf2.proofs.Leading.{bit-beyond}
use Rattle.gf2.proofs.Over.{sum_over-ext, sum_over-in, sum_over-none, xor_all-map_bit}
use Rattle.gf2.proofs.Sum.{sum-suc}
use Rattle.gf2.specs.Bit.{bit}
use Rattle.gf2.specs.Copies.{close, copies, pairs, spaced}
use Rattle.gf2.specs.Over.{sum_over, xor_all}
use Rattle.gf2.specs.Sum.{sum}

copy_place : (apart count k i : ℕ) → k < count → i < apart → apart * k + i < apart * count
copy_place apart count k i h l =
    let d : ℕ = count - suc k in
    let e : count ≡ suc k + d = omega arith in
    rw e (omega arith)

-- ---- copies of x, which has no more bits than they are apart

module _ (apart x : ℕ) (small : x < 2 ^ apart) where
  copies-next : (count : ℕ) → copies apart (suc count) x ≡ x * 2 ^ (apart * count) + copies apart count x
  unfolding copies
  copies-next count = rw (sum-suc count (λ k. 2 ^ (apart * k))) (omega arith)

  copies-none : copies apart 0 x ≡ 0
  unfolding copies sum
  copies-none = omega arith

  copies-lt : (count : ℕ) → copies apart count x < 2 ^ (apart * count)
  copies-lt zero = rw (copies-none) (pow_pos (apart * 0))
  copies-lt (suc count) =
      let e : apart * suc count ≡ apart + apart * count = omega arith in
      rw (copies-next count, e) (blocks_lt apart (apart * count) x (copies apart count x) small (copies-lt count))

  -- bit i of copy k
  copy_bit : (count k i : ℕ) → k < count → i < apart → bit (copies apart count x) (apart * k + i) ≡ bit x i
  copy_bit zero k i h l = absurd (omega arith)
  copy_bit (suc count) k i h l = go (ℕ_discrete k count) (λ g. copy_bit count k i g l)
    where
      go : Dec (k ≡ count) → (k < count → bit (copies apart count x) (apart * k + i) ≡ bit x i)
          → bit (copies apart (suc count) x) (apart * k + i) ≡ bit x i
      go (yes e) r = rw (e, copies-next count) (bit_up x (apart * count) (copies apart count x) i (copies-lt count))
      go (no ne) r =
          rw (copies-next count)
          (bit-low x (apart * count) (copies apart count x) (apart * k + i) (copies-lt count) (copy_place apart count k i (omega arith) l)
          ∙ r (omega arith))

wide : (n apart x : ℕ) → n ≤ apart → x < 2 ^ n → x < 2 ^ apart
wide n apart x room h = omega (arith, pow_mono {i = n} {j = apart} room)

-- each place of the copies has one bit of x, whatever x of n bits is, or none: then say, bit n
copies-show : (n apart u : ℕ) → n ≤ apart → (count : ℕ) → (i : ℕ) × ((x : ℕ) → x < 2 ^ n → bit (copies apart count x) u ≡ bit x i)
copies-show n apart u room zero =
    (n, λ x h. rw (copies-none apart x (wide n apart x room h)) (bit-of_zero u) ∙ sym (bit-beyond n x n h (omega arith)))
copies-show n apart u room (suc count) = go (dec_lt u (apart * count)) (copies-show n apart u room count)
  where
    go : Dec (u < apart * count) → (i : ℕ) × ((x : ℕ) → x < 2 ^ n → bit (copies apart count x) u ≡ bit x i)
        → (i : ℕ) × ((x : ℕ) → x < 2 ^ n → bit (copies apart (suc count) x) u ≡ bit x i)
    go (yes l) r = (
      r.0,
      λ x h. rw (copies-next apart x (wide n apart x room h) count)
          (bit-low x (apart * count) (copies apart count x) u (copies-lt apart x (wide n apart x room h) count) l ∙ r.1 x h),
    )
    go (no l) r =
        let e : u ≡ apart * count + (u - apart * count) = omega arith in (
          u - apart * count,
          λ x h. ap (bit (copies apart (suc count) x)) e
              ∙ rw (copies-next apart x (wide n apart x room h) count)
              (bit_up x (apart * count) (copies apart count x) (u - apart * count) (copies-lt apart x (wide n apart x room h) count)),
        )

-- ---- over a list

-- the numbers f y of n bits each
module _ (n : ℕ) (f : ℕ → ℕ) (Y : List ℕ) (fits : (i : ℕ) → i < length Y → f (get_or Y i 0) < 2 ^ n) where
  abbrev two : ℕ → ℕ → ℕ → ℕ
  two i j y = bit (f y) i * bit (f y) j

  -- what stands at place u of the xor, by the bits that meet there
  place_sum : (u i j : ℕ) → ((x : ℕ) → x < 2 ^ n → bit (spaced n x) u ≡ bit x i) → ((x : ℕ) → x < 2 ^ n → bit (close n x) u ≡ bit x j)
      → bit (xor_all (map (λ y. pairs n (f y)) Y)) u ≡ sum_over (two i j) Y % 2
  unfolding pairs
  place_sum u i j a b =
      xor_all-map_bit (λ y. pairs n (f y)) u Y
      ∙ ap (λ (s : ℕ). s % 2)
      (sum_over-in (λ y. bit (pairs n (f y)) u) (two i j) Y
      (λ k l. bit-and (spaced n (f (get_or Y k 0))) (close n (f (get_or Y k 0))) u
      ∙ ap₂ (λ (s t : ℕ). s * t) (a (f (get_or Y k 0)) (fits k l)) (b (f (get_or Y k 0)) (fits k l))))

  two_swap : (i j : ℕ) → sum_over (two i j) Y % 2 ≡ sum_over (two j i) Y % 2
  two_swap i j = ap (λ (s : ℕ). s % 2) (sum_over-ext (two i j) (two j i) (λ y. mul_comm (bit (f y) i) (bit (f y) j)) Y)

  -- each two bits i ≤ j meet
  even_up : xor_all (map (λ y. pairs n (f y)) Y) ≡ 0 → (i j : ℕ) → i ≤ j → j < n → sum_over (two i j) Y % 2 ≡ 0
  even_up zero_xor i j h l = go (dec_lt (n / 2) (j - i))
    where
      none : (u : ℕ) → bit (xor_all (map (λ y. pairs n (f y)) Y)) u ≡ 0
      none u = rw zero_xor (bit-of_zero u)

      go : Dec (n / 2 < j - i) → sum_over (two i j) Y % 2 ≡ 0
      go (no far) =
          let d : ℕ = j - i in
          let u : ℕ = (n + 1) * d + i in
          let e : u ≡ n * d + j = omega arith in
          sym (place_sum u i j (λ x s. copy_bit _ x (wide n _ x (omega arith) s) _ d i (omega arith) (omega arith))
          (λ x s. ap (bit (close n x)) e ∙ copy_bit _ x s _ d j (omega arith) l))
          ∙ none u
      go (yes far) =
          let k : ℕ = n - (j - i) in
          let u : ℕ = (n + 1) * k + j in
          let e : u ≡ n * (k + 1) + i = omega arith in
          two_swap i j
          ∙ sym (place_sum u j i (λ x s. copy_bit _ x (wide n _ x (omega arith) s) _ k j (omega arith) (omega arith))
          (λ x s. ap (bit (close n x)) e ∙ copy_bit _ x s _ (k + 1) i (omega arith) (omega arith)))
          ∙ none u

  -- the xor is 0 exactly where each two bits have an even number of products
  pub pairs_even : (xor_all (map (λ y. pairs n (f y)) Y) ≡ 0)
      ↔ ((i j : ℕ) → i < n → j < n → sum_over (λ y. bit (f y) i * bit (f y) j) Y % 2 ≡ 0)
  pairs_even = (
    λ e i j li lj. any e i j li lj (dec_lt j i),
    λ even. bit-eq _ 0
        (λ u.
        at even u (copies-show n _ u (omega arith) _) (copies-show n _ u (omega arith) _)
        ∙ sym (bit-of_zero u)),
  )
    where
      any : xor_all (map (λ y. pairs n (f y)) Y) ≡ 0 → (i j : ℕ) → i < n → j < n → Dec (j < i) → sum_over (two i j) Y % 2 ≡ 0
      any e i j li lj (no l) = even_up e i j (omega arith) lj
      any e i j li lj (yes l) =
          two_swap i j
          ∙ even_up e j i (omega arith) li

      at : ((i j : ℕ) → i < n → j < n → sum_over (two i j) Y % 2 ≡ 0) → (u : ℕ)
          → (i : ℕ) × ((x : ℕ) → x < 2 ^ n → bit (spaced n x) u ≡ bit x i) → (j : ℕ) × ((x : ℕ) → x < 2 ^ n → bit (close n x) u ≡ bit x j)
          → bit (xor_all (map (λ y. pairs n (f y)) Y)) u ≡ 0
      at even u a b = place_sum u a.0 b.0 a.1 b.1 ∙ meet a.0 b.0 (dec_lt a.0 n) (dec_lt b.0 n)
        where
          beyond : (i j : ℕ) → ((q : ℕ) → q < length Y → two i j (get_or Y q 0) ≡ 0) → sum_over (two i j) Y % 2 ≡ 0
          beyond i j h = ap (λ (s : ℕ). s % 2) (sum_over-none (two i j) Y h)

          meet : (i j : ℕ) → Dec (i < n) → Dec (j < n) → sum_over (two i j) Y % 2 ≡ 0
          meet i j (yes li) (yes lj) = even i j li lj
          meet i j (no li) d = beyond i j (λ q m. rw (bit-beyond n (f (get_or Y q 0)) i (fits q m) (omega arith)) (omega arith))
          meet i j (yes li) (no lj) = beyond i j (λ q m. rw (bit-beyond n (f (get_or Y q 0)) j (fits q m) (omega arith)) (omega arith))
