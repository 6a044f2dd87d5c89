-- The echelon: a number comes down to 0, or is stopped at an empty slot, which it may fill; and only the empty combination of filled slots
-- is 0.
use mathlib.Core.List.{List}
use mathlib.Core.Logic.{◌≢◌, ◌⊎◌, inl, inr}
use mathlib.Core.Path.{◌∙◌, ◌≡◌, ap, sym}
use Prim.Native.Nat.{◌%◌, ◌*◌, ◌<◌, ◌^◌, ◌≤◌, suc, zero, ℕ}
use native.Mathlib.Decide.{dec_lt, ℕ_discrete}
use native.Mathlib.Nat.{le_refl, mul-zero, one-mul, zero-mul}
use native.Mathlib.Omega.{arith}
use lib.Bits.{bit_xor, xor_comm, xor_lt, xor_zero_l, xor_zero_r}
use lib.ListN.{get_or, length, length-set, set}
use lib.Pow.{pow_mono, pow_pos}
use lib.Seq.{get_or-set_other, get_or-set_same}
use Rattle.gf2.proofs.Bit.{bit-lt, bit-of_zero, bit-pow_other, bit-values, bit-xor}
use Rattle.gf2.proofs.Combination.{combine-unseen, combine-whole}
use Rattle.gf2.proofs.Leading.{xor_lead, xor_top}
use Rattle.gf2.proofs.Selection.{combine-first, combine-next, combine-none, combine-one, combine-xor, scale_lt}
use Rattle.gf2.proofs.Xor.{xor_assoc, xor_cancel}
use Rattle.gf2.specs.Bit.{bit}
use Rattle.gf2.specs.Echelon.{Lead, Opened, Reached, Shape, Stopped}
use Rattle.gf2.specs.Selection.{combine}

-- ---- leading bits

module _ (N : ℕ) (vec : List ℕ) (shape : Shape N vec) where
  -- a combination of the slots below k has no bit from k on
  low_slots : (k u : ℕ) → k ≤ N → combine (u % 2 ^ k) vec < 2 ^ k
  low_slots zero u l = rw (combine-first u vec) (omega arith)
  low_slots (suc k) u l =
      rw (combine-next u k vec)
      (xor_lt (suc k) (combine (u % 2 ^ k) vec) (bit u k * get_or vec k 0) (omega (arith, low_slots k u (omega arith)))
      (scale_lt (bit u k) (get_or vec k 0) (2 ^ suc k) (bit-lt u k) (shape.lead k l).fits))

  -- a combination that is 0 names no slot that holds something: so of numbers that stand beside filled slots alone, it is 0 too
  module _ (tag : List ℕ) (untagged : (s : ℕ) → get_or vec s 0 ≡ 0 → get_or tag s 0 ≡ 0) where
    tags_low : (k u : ℕ) → k ≤ N → combine (u % 2 ^ k) vec ≡ 0 → combine (u % 2 ^ k) tag ≡ 0
    tags_low zero u l e = combine-first u tag
    tags_low (suc k) u l e = go (bit-values (bit u k) (bit-lt u k)) (ℕ_discrete (get_or vec k 0) 0) (tags_low k u (omega arith))
      where
        Lower : Type 0
        Lower = combine (u % 2 ^ k) vec ≡ 0 → combine (u % 2 ^ k) tag ≡ 0

        -- slot k adds nothing
        same : (ys : List ℕ) → bit u k * get_or ys k 0 ≡ 0 → combine (u % 2 ^ suc k) ys ≡ combine (u % 2 ^ k) ys
        same ys z = combine-next u k ys ∙ rw z (xor_zero_r (combine (u % 2 ^ k) ys))

        lower : bit u k * get_or vec k 0 ≡ 0 → bit u k * get_or tag k 0 ≡ 0 → Lower → combine (u % 2 ^ suc k) tag ≡ 0
        lower z w r = same tag w ∙ r (sym (same vec z) ∙ e)

        go : (bit u k ≡ 0) ⊎ (bit u k ≡ 1) → Dec (get_or vec k 0 ≡ 0) → Lower → combine (u % 2 ^ suc k) tag ≡ 0
        go (inl d) z r = lower (rw d (zero-mul (get_or vec k 0))) (rw d (zero-mul (get_or tag k 0))) r
        go (inr d) (yes z) r = lower (rw z (mul-zero (bit u k))) (rw (untagged k z) (mul-zero (bit u k))) r
        go (inr d) (no z) r =
            let one : bit u k * get_or vec k 0 ≡ get_or vec k 0 = rw d (one-mul (get_or vec k 0)) in
            absurd (omega (
              arith,
              xor_lead k (combine (u % 2 ^ k) vec) (get_or vec k 0) (low_slots k u (omega arith)) ((shape.lead k l).leads z)
                  (shape.lead k l).fits,
              sym (combine-next u k vec ∙ ap (bit_xor (combine (u % 2 ^ k) vec)) one) ∙ e,
              pow_pos k,
            ))

    pub tags_vanish : (u : ℕ) → length tag ≡ N → combine u vec ≡ 0 → combine u tag ≡ 0
    tags_vanish u long e =
        let low : combine (u % 2 ^ N) vec ≡ 0 = ap (λ (k : ℕ). combine (u % 2 ^ k) vec) (sym shape.long) ∙ combine-whole u vec ∙ e in
        sym (ap (λ (k : ℕ). combine (u % 2 ^ k) tag) (sym long) ∙ combine-whole u tag) ∙ tags_low N u (le_refl _) low

  -- one step of reducing: s is the next slot
  pub step_lt : (s left : ℕ) → s < N → left < 2 ^ suc s → 2 ^ s ≤ left → get_or vec s 0 ≢ 0 → bit_xor left (get_or vec s 0) < 2 ^ s
  step_lt s left l hi lo n = xor_top s left (get_or vec s 0) lo hi ((shape.lead s l).leads n) (shape.lead s l).fits

-- ---- reducing

-- the mask 0 names nothing
no_bit : (s : ℕ) → bit 0 s ≡ 1 → ⊥
no_bit s e = omega (arith, bit-of_zero s)

-- a slot in a mask is in it still when another one is put in or taken out
other_bit : (used s t : ℕ) → t ≢ s → bit (bit_xor used (2 ^ s)) t ≡ 1 → bit used t ≡ 1
other_bit used s t ne e = omega (arith, bit-xor used (2 ^ s) t, bit-pow_other s t (λ q. ne (sym q)), bit-lt used t)

module _ (vec : List ℕ) where
  pub reached_start : (v : ℕ) → Reached vec v v 0
  reached_start v =
      record {
        taken = rw (combine-none vec) (xor_zero_l v);
        filled = λ s e. absurd (no_bit s e);
        above = λ s e. absurd (no_bit s e);
      }

  -- slot s is taken off: it is filled, and has the leading bit of what is left
  pub reached_step : (N v left used s : ℕ) → Shape N vec → s < N → 2 ^ s ≤ left → left < 2 ^ suc s → get_or vec s 0 ≢ 0
      → Reached vec v left used → Reached vec v (bit_xor left (get_or vec s 0)) (bit_xor used (2 ^ s))
  reached_step N v left used s shape l lo hi ne r =
      record {
        taken =
            ap (λ (x : ℕ). bit_xor x (bit_xor left (get_or vec s 0)))
            (combine-xor used (2 ^ s) vec ∙ ap (bit_xor (combine used vec)) (combine-one s vec))
            ∙ swap (combine used vec) (get_or vec s 0) left ∙ r.taken;
        filled = λ t e. filled' t e (ℕ_discrete t s);
        above = λ t e. above' t e (ℕ_discrete t s);
      }
    where
      swap : (a b c : ℕ) → bit_xor (bit_xor a b) (bit_xor c b) ≡ bit_xor a c
      swap a b c = rw (xor_assoc a b (bit_xor c b), xor_comm b (bit_xor c b), xor_cancel c b)

      filled' : (t : ℕ) → bit (bit_xor used (2 ^ s)) t ≡ 1 → Dec (t ≡ s) → get_or vec t 0 ≢ 0
      filled' t e (yes q) = rw q ne
      filled' t e (no n) = r.filled t (other_bit used s t n e)

      falls : bit_xor left (get_or vec s 0) < 2 ^ s
      falls = step_lt N vec shape s left l hi lo ne

      above' : (t : ℕ) → bit (bit_xor used (2 ^ s)) t ≡ 1 → Dec (t ≡ s) → bit_xor left (get_or vec s 0) < 2 ^ t
      above' t e (yes q) = rw q falls
      above' t e (no n) = omega (arith, falls, r.above t (other_bit used s t n e))

-- ---- slot s filled by the column v that was stopped there

module _ (N : ℕ) (vec : List ℕ) (v s left used : ℕ) (shape : Shape N vec) (t : Stopped N vec v s left used) where
  now : get_or (set vec s left) s 0 ≡ left
  now = get_or-set_same vec s left 0 (rw shape.long t.slot)

  -- a slot that was filled is another, and holds what it held
  pub filled_other : (j : ℕ) → get_or vec j 0 ≢ 0 → (j ≢ s) × (get_or (set vec s left) j 0 ≡ get_or vec j 0)
  filled_other j n = let d : j ≢ s = λ e. n (rw e t.empty) in (d, get_or-set_other vec s j left 0 d)

  still : (j : ℕ) → get_or vec j 0 ≢ 0 → get_or (set vec s left) j 0 ≢ 0
  still j n = rw (filled_other j n).1 n

  -- a mask of filled slots does not name s
  pub unseen : (mask : ℕ) → ((j : ℕ) → bit mask j ≡ 1 → get_or vec j 0 ≢ 0) → combine mask (set vec s left) ≡ combine mask vec
  unseen mask f = combine-unseen mask s left vec (rw shape.long t.slot) (go (bit-values (bit mask s) (bit-lt mask s)))
    where
      go : (bit mask s ≡ 0) ⊎ (bit mask s ≡ 1) → bit mask s ≡ 0
      go (inl e) = e
      go (inr e) = absurd (f s e t.empty)

  pub filled_shape : Shape N (set vec s left)
  filled_shape = record { long = length-set vec s left ∙ shape.long; lead = λ i l. lead' i l (ℕ_discrete i s) }
    where
      lead' : (i : ℕ) → i < N → Dec (i ≡ s) → Lead i (get_or (set vec s left) i 0)
      lead' i l (yes q) = rw (q, now) (record { fits = t.hi; leads = λ n. t.lo })
      lead' i l (no n) = rw (get_or-set_other vec s i left 0 n) (shape.lead i l)

  -- the new slot
  pub filled_new : Opened (set vec s left) s v used
  filled_new =
      record {
        taken = rw (unseen used t.reached.filled, now) t.reached.taken;
        filled = λ j e. still j (t.reached.filled j e);
        above = λ j e. over j (t.reached.above j e) (dec_lt s j);
      }
    where
      over : (j : ℕ) → left < 2 ^ j → Dec (s < j) → s < j
      over j l (yes h) = h
      over j l (no h) = absurd (omega (arith, t.lo, pow_mono {i = j} {j = s} (omega arith)))

  -- and one that was opened before
  pub filled_old : (j x mask : ℕ) → get_or vec j 0 ≢ 0 → Opened vec j x mask → Opened (set vec s left) j x mask
  filled_old j x mask n o =
      record {
        taken = rw (unseen mask o.filled, (filled_other j n).1) o.taken;
        filled = λ i e. still i (o.filled i e);
        above = o.above;
      }
