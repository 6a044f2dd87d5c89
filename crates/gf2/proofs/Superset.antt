-- Superset sums: the wires done one after the other give the sum over all numbers that name the wires of m. At one wire and at two this is
-- the sum with a bit, and with two.
use mathlib.Core.Path.{ap, refl, sym, ◌∙◌, ◌≡◌}
use Prim.Native.Nat.{◌%◌, ◌*◌, ◌+◌, ◌-◌, ◌/◌, ◌<◌, ◌^◌, suc, zero, ℕ, ◌≤◌}
use native.Mathlib.Decide.{dec_lt, ℕ_discrete}
use native.Mathlib.Nat.{add_assoc, add_comm, le_refl, mod-lt, one-mul, zero-add, zero-mul}
use native.Mathlib.Omega.{arith}
use lib.Pow.{pow-lt, pow_mono, pow_pos, split}
use Rattle.gf2.proofs.Bit.{bit_high, bit-lt, bit-of_zero, three_lt, two_lt}
use Rattle.gf2.proofs.Blocks.{bit-low}
use Rattle.gf2.proofs.Leading.{bit-top}
use Rattle.gf2.proofs.Sum.{sum-double, sum-ext, sum-zero}
use Rattle.gf2.specs.Bit.{bit}
use Rattle.gf2.specs.Sum.{sum}
use Rattle.gf2.specs.Superset.{above, names_all, superset}

-- ---- 2 ^ n added

-- no bit below n changes
bit_kept : (n p i : ℕ) → i < n → bit (2 ^ n + p) i ≡ bit p i
bit_kept n p i h =
    let hi : ℕ = p / 2 ^ n in
    let lo : ℕ = p % 2 ^ n in
    let l : lo < 2 ^ n = mod-lt p (pow_pos n) in
    let e : hi * 2 ^ n + lo ≡ p = split p n in
    let g : 2 ^ n + p ≡ (hi + 1) * 2 ^ n + lo = omega arith in
    ap (λ (x : ℕ). bit x i) g ∙ bit-low (hi + 1) n lo i l h ∙ sym (bit-low hi n lo i l h) ∙ ap (λ (x : ℕ). bit x i) e

-- bit n of a number below it is set
bit_added : (n p : ℕ) → p < 2 ^ n → bit (2 ^ n + p) n ≡ 1
bit_added n p h = bit-top n (2 ^ n + p) (omega arith) (omega arith)

-- a number of n bits without bit i has n bits with it too
pub with_bit : (n p i : ℕ) → i < n → p < 2 ^ n → bit p i ≡ 0 → p + 2 ^ i < 2 ^ n
with_bit zero p i h l e = absurd (omega arith)
with_bit (suc n) p i h l e = go (dec_lt p (2 ^ n)) (ℕ_discrete i n) (with_bit n)
  where
    go : Dec (p < 2 ^ n) → Dec (i ≡ n) → ((p i : ℕ) → i < n → p < 2 ^ n → bit p i ≡ 0 → p + 2 ^ i < 2 ^ n) → p + 2 ^ i < 2 ^ suc n
    go (yes g) (yes d) ih = rw d (omega arith)
    go (no g) (yes d) ih = absurd (omega (arith, bit-top n p (omega arith) l, rw d at e))
    go (yes g) (no ne) ih = omega (arith, ih p i (omega arith) g e)
    go (no g) (no ne) ih =
        let r : ℕ = p - 2 ^ n in
        let f : 2 ^ n + r ≡ p = omega arith in
        omega (arith, ih r i (omega arith) (omega arith) (sym (bit_kept n r i (omega arith)) ∙ ap (λ (x : ℕ). bit x i) f ∙ e))

-- ---- naming all wires of another number

-- a wire that m does not name asks nothing of r
names_all_free : (k m r : ℕ) → bit m k ≡ 0 → names_all (suc k) m r ≡ names_all k m r
unfolding names_all
names_all_free k m r e = rw (e, zero-mul (1 - bit r k)) (omega arith)

-- a wire that it names must be one of r
names_all_asks : (k m r : ℕ) → bit m k ≡ 1 → names_all (suc k) m r ≡ names_all k m r * bit r k
unfolding names_all
names_all_asks k m r e = rw (e, one-mul (1 - bit r k)) (ap (λ (t : ℕ). names_all k m r * t) (twice (bit r k) (bit-lt r k)))
  where
    twice : (b : ℕ) → b < 2 → 1 - (1 - b) ≡ b
    twice b h = omega arith

-- only the bits below k count
names_all_ext : (k m m' r r' : ℕ) → ((i : ℕ) → i < k → bit m i ≡ bit m' i) → ((i : ℕ) → i < k → bit r i ≡ bit r' i)
    → names_all k m r ≡ names_all k m' r'
unfolding names_all
names_all_ext zero m m' r r' e f = refl
names_all_ext (suc k) m m' r r' e f =
    rw (names_all_ext k m m' r r' (λ i l. e i (omega arith)) (λ i l. f i (omega arith)), e k (le_refl _), f k (le_refl _))

names_all_none : (n r : ℕ) → names_all n 0 r ≡ 1
unfolding names_all
names_all_none zero r = refl
names_all_none (suc n) r = names_all_free n 0 r (bit-of_zero n) ∙ names_all_none n r

-- a wire above all of m
names_all_last : (k m r : ℕ) → m < 2 ^ k → names_all (suc k) (m + 2 ^ k) r ≡ names_all (suc k) m r * bit r k
names_all_last k m r l =
    ap (λ (x : ℕ). names_all (suc k) x r) (add_comm m (2 ^ k)) ∙ names_all_asks k (2 ^ k + m) r (bit_added k m l)
    ∙ ap (λ (t : ℕ). t * bit r k)
    (names_all_ext k (2 ^ k + m) m r r (λ i h. bit_kept k m i h) (λ i h. refl) ∙ sym (names_all_free k m r (bit_high k m l)))

pub names_all_top : (n i m r : ℕ) → i < n → m < 2 ^ i → names_all n (m + 2 ^ i) r ≡ names_all n m r * bit r i
names_all_top zero i m r h l = absurd (omega arith)
names_all_top (suc k) i m r h l = go (ℕ_discrete k i) (λ g. names_all_top k i m r g l)
  where
    go : Dec (k ≡ i) → (i < k → names_all k (m + 2 ^ i) r ≡ names_all k m r * bit r i)
        → names_all (suc k) (m + 2 ^ i) r ≡ names_all (suc k) m r * bit r i
    go (yes e) ih = rw (← e) (names_all_last k m r (rw (← e) at l))
    go (no ne) ih =
        let g : i < k = omega arith in
        let s : m + 2 ^ i < 2 ^ k = omega (arith, pow_mono {i = suc i} {j = k} g) in
        names_all_free k (m + 2 ^ i) r (bit_high k (m + 2 ^ i) s) ∙ ih g
        ∙ ap (λ (t : ℕ). t * bit r i) (sym (names_all_free k m r (bit_high k m (omega arith))))

names_all_one : (n i r : ℕ) → i < n → names_all n (2 ^ i) r ≡ bit r i
names_all_one n i r h =
    ap (λ (x : ℕ). names_all n x r) (sym (zero-add (2 ^ i))) ∙ names_all_top n i 0 r h (pow_pos i)
    ∙ ap (λ (t : ℕ). t * bit r i) (names_all_none n r) ∙ one-mul (bit r i)

names_all_two : (n i j r : ℕ) → i < j → j < n → names_all n (2 ^ i + 2 ^ j) r ≡ bit r i * bit r j
names_all_two n i j r h g = names_all_top n j (2 ^ i) r g (pow-lt h) ∙ ap (λ (t : ℕ). t * bit r j) (names_all_one n i r (omega arith))

names_all_three : (n i j k r : ℕ) → i < j → j < k → k < n → names_all n (2 ^ i + 2 ^ j + 2 ^ k) r ≡ bit r i * bit r j * bit r k
names_all_three n i j k r h g f =
    names_all_top n k (2 ^ i + 2 ^ j) r f (two_lt k i j h g) ∙ ap (λ (t : ℕ). t * bit r k) (names_all_two n i j r h (omega arith))

-- ---- one wire more

pub superset-none : (f : ℕ → ℕ) (p : ℕ) → superset 0 f p ≡ f p
unfolding superset
superset-none f p = refl

module _ (k : ℕ) (f : ℕ → ℕ) (p : ℕ) where
  pub superset-free : bit p k ≡ 0 → superset (suc k) f p ≡ superset k f p + superset k f (p + 2 ^ k)
  unfolding superset
  superset-free e = rw (e, one-mul (superset k f (p + 2 ^ k)))

  pub superset-set : bit p k ≡ 1 → superset (suc k) f p ≡ superset k f p
  unfolding superset
  superset-set e = rw (e, zero-mul (superset k f (p + 2 ^ k))) (omega arith)

-- ---- the top wire: of m without it, and of m with it

module _ (n : ℕ) (f : ℕ → ℕ) where
  -- the upper half
  abbrev upper : ℕ → ℕ
  upper r = f (2 ^ n + r)

  superset-shift : (k p : ℕ) → k ≤ n → superset k f (2 ^ n + p) ≡ superset k upper p
  unfolding superset
  superset-shift zero p h = refl
  superset-shift (suc k) p h =
      rw (
        bit_kept n p k h,
        add_assoc (2 ^ n) p (2 ^ k),
        superset-shift k p (omega arith),
        superset-shift k (p + 2 ^ k) (omega arith),
      )

  superset-without : (m : ℕ) → m < 2 ^ n → superset (suc n) f m ≡ superset n f m + superset n upper m
  superset-without m h = superset-free n f m (bit_high n m h) ∙ rw (add_comm m (2 ^ n), superset-shift n m (le_refl _))

  superset-with : (m : ℕ) → m < 2 ^ n → superset (suc n) f (2 ^ n + m) ≡ superset n upper m
  superset-with m h = superset-set n f (2 ^ n + m) (bit_added n m h) ∙ superset-shift n m (le_refl _)

  above_without : (m : ℕ) → m < 2 ^ n → above (suc n) f m ≡ above n f m + above n upper m
  unfolding above
  above_without m h =
      omega (
        arith,
        sum-double n (λ r. f r * names_all (suc n) m r),
        sum-ext (2 ^ n) (λ r. f r * names_all (suc n) m r) (λ r. f r * names_all n m r)
            (λ r l. ap (λ (t : ℕ). f r * t) (names_all_free n m r (bit_high n m h))),
        sum-ext (2 ^ n) (λ r. f (2 ^ n + r) * names_all (suc n) m (2 ^ n + r)) (λ r. f (2 ^ n + r) * names_all n m r)
            (λ r l. ap (λ (t : ℕ). f (2 ^ n + r) * t)
            (names_all_free n m (2 ^ n + r) (bit_high n m h) ∙ names_all_ext n m m (2 ^ n + r) r (λ i g. refl) (λ i g. bit_kept n r i g))),
      )

  above_with : (m : ℕ) → m < 2 ^ n → above (suc n) f (2 ^ n + m) ≡ above n upper m
  unfolding above
  above_with m h =
      omega (
        arith,
        sum-double n (λ r. f r * names_all (suc n) (2 ^ n + m) r),
        sum-ext (2 ^ n) (λ r. f r * names_all (suc n) (2 ^ n + m) r) (λ r. 0) (λ r l. lower r l),
        sum-zero (2 ^ n),
        sum-ext (2 ^ n) (λ r. f (2 ^ n + r) * names_all (suc n) (2 ^ n + m) (2 ^ n + r)) (λ r. f (2 ^ n + r) * names_all n m r)
            (λ r l. ap (λ (t : ℕ). f (2 ^ n + r) * t) (higher r l)),
      )
    where
      lower : (r : ℕ) → r < 2 ^ n → f r * names_all (suc n) (2 ^ n + m) r ≡ 0
      lower r l = rw (names_all_asks n (2 ^ n + m) r (bit_added n m h), bit_high n r l) (omega arith)

      higher : (r : ℕ) → r < 2 ^ n → names_all (suc n) (2 ^ n + m) (2 ^ n + r) ≡ names_all n m r
      higher r l =
          let low = names_all_ext n (2 ^ n + m) m (2 ^ n + r) r (λ i g. bit_kept n m i g) (λ i g. bit_kept n r i g) in
          names_all_asks n (2 ^ n + m) (2 ^ n + r) (bit_added n m h) ∙ rw (bit_added n r l, low) (omega arith)

-- ---- all wires

pub superset-above : (n : ℕ) (f : ℕ → ℕ) (m : ℕ) → m < 2 ^ n → superset n f m ≡ above n f m
unfolding superset above names_all sum
superset-above zero f m h = let e : m ≡ 0 = omega arith in rw e (omega arith)
superset-above (suc n) f m h = go (dec_lt m (2 ^ n)) (superset-above n)
  where
    go : Dec (m < 2 ^ n) → ((g : ℕ → ℕ) (m : ℕ) → m < 2 ^ n → superset n g m ≡ above n g m) → superset (suc n) f m ≡ above (suc n) f m
    go (yes l) ih = superset-without n f m l ∙ rw (ih f m l, ih (upper n f) m l) (sym (above_without n f m l))
    go (no l) ih =
        let r : ℕ = m - 2 ^ n in
        let e : m ≡ 2 ^ n + r = omega arith in
        let s : r < 2 ^ n = omega arith in
        ap (superset (suc n) f) e ∙ superset-with n f r s ∙ ih (upper n f) r s ∙ sym (above_with n f r s) ∙ ap (above (suc n) f) (sym e)

-- ---- at one wire, at two and at three

module _ (n : ℕ) (f : ℕ → ℕ) where
  pub superset-one : (i : ℕ) → i < n → superset n f (2 ^ i) ≡ sum (2 ^ n) (λ r. f r * bit r i)
  unfolding above
  superset-one i h =
      superset-above n f (2 ^ i) (pow-lt h)
      ∙ sum-ext (2 ^ n) (λ r. f r * names_all n (2 ^ i) r) (λ r. f r * bit r i) (λ r l. ap (λ (t : ℕ). f r * t) (names_all_one n i r h))

  pub superset-two : (i j : ℕ) → i < j → j < n → superset n f (2 ^ i + 2 ^ j) ≡ sum (2 ^ n) (λ r. f r * (bit r i * bit r j))
  unfolding above
  superset-two i j h g =
      superset-above n f (2 ^ i + 2 ^ j) (two_lt n i j h g)
      ∙ sum-ext (2 ^ n) (λ r. f r * names_all n (2 ^ i + 2 ^ j) r) (λ r. f r * (bit r i * bit r j))
      (λ r l. ap (λ (t : ℕ). f r * t) (names_all_two n i j r h g))

  pub superset-three : (i j k : ℕ) → i < j → j < k → k < n
      → superset n f (2 ^ i + 2 ^ j + 2 ^ k) ≡ sum (2 ^ n) (λ r. f r * (bit r i * bit r j * bit r k))
  unfolding above
  superset-three i j k h g t =
      superset-above n f (2 ^ i + 2 ^ j + 2 ^ k) (three_lt n i j k h g t)
      ∙ sum-ext (2 ^ n) (λ r. f r * names_all n (2 ^ i + 2 ^ j + 2 ^ k) r) (λ r. f r * (bit r i * bit r j * bit r k))
      (λ r l. ap (λ (x : ℕ). f r * x) (names_all_three n i j k r h g t))
