-- Bringing masks to 2^i, row by row. The invariant after r rows: the combination that mask i names, of the parities that the wires hold, is
-- row i; and the masks passed are 2^j. Over n and N.
use mathlib.Core.List.{List, map}
use mathlib.Core.Logic.{inl, inr, ◌≢◌, ◌⊎◌}
use mathlib.Core.Path.{ap, sym, ◌∙◌, ◌≡◌}
use Prim.Native.Nat.{◌%◌, ◌*◌, ◌+◌, ◌-◌, ◌<◌, ◌^◌, suc, zero, ℕ, ◌≤◌}
use native.Mathlib.Decide.{dec_lt, ℕ_discrete}
use native.Mathlib.Nat.{le_refl, one-mul, zero-mul}
use native.Mathlib.Omega.{arith}
use lib.Bits.{bit_xor, xor_lt, xor_self, xor_zero_r}
use lib.ListN.{get_or-map, get_or, length, length-append, length-map, length-set}
use lib.Pow.{pow-lt}
use lib.Seq.{get_or-set_other}
use Rattle.circuit.proofs.Sound.{combine-first_rows, first_rows_beyond, first_sound, length-first, read_append}
use Rattle.circuit.specs.Faults.{AllWellFormed}
use Rattle.circuit.specs.Read.{Reading, first_rows, read_from, with_rows}
use Rattle.gf2.proofs.Bit.{bit-lt, bit-of_zero, bit-pow_other, bit-pow_same, bit-scale, bit-values, bit-xor}
use Rattle.gf2.proofs.BitCounts.{flip_same}
use Rattle.gf2.proofs.XorInto.{combine-into, xor_into}
use Rattle.gf2.proofs.Selection.{remask, remask_lt, remask_nonzero, remask_twice, scale_lt}
use Rattle.gf2.proofs.Sum.{sum-ext, sum-single, sum-zero}
use Rattle.gf2.proofs.Xor.{xor_assoc}
use Rattle.gf2.specs.Bit.{bit}
use Rattle.gf2.specs.Selection.{Independent, combine}
use Rattle.gf2.specs.Sum.{sum}
use Rattle.written.proofs.Cnots.{fewer_cnots, formed_cnots, length-cnots, read_cnots}
use Rattle.written.proofs.Lists.{formed_append}
use Rattle.written.proofs.Pivots.{Names}
use Rattle.written.specs.Writing.{cnots, filled, lack, next_masks, recount, row_gates, surplus}

-- ---- the masks after CNOTs

pub recount_at : (t q i : ℕ) (masks : List ℕ) → get_or (recount t q masks) i 0 ≡ remask t q (get_or masks i 0)
unfolding recount
recount_at t q i masks = ap (λ (z : ℕ). get_or (map (remask t q) masks) i z) (sym zeroed) ∙ get_or-map (remask t q) masks i 0
  where
    zeroed : remask t q 0 ≡ 0
    zeroed = rw (bit-of_zero t) (zero-mul q)

pub length-recount : (t q : ℕ) (masks : List ℕ) → length (recount t q masks) ≡ length masks
unfolding recount
length-recount t q masks = length-map masks (remask t q)

-- ---- the invariant after r rows, with rows wanted, masks, and rows held

pub record Going (N n r : ℕ) (wanted masks held : List ℕ) : Type 0 where
  pub wide : length masks ≡ N
  pub tall : length held ≡ N
  pub makes : (i : ℕ) → i < n → combine (get_or masks i 0) held ≡ get_or wanted i 0
  pub small : (i : ℕ) → i < n → get_or masks i 0 < 2 ^ n
  pub past : (j : ℕ) → j < r → get_or masks j 0 ≡ 2 ^ j
  pub beyond : (i : ℕ) → n ≤ i → get_or held i 0 ≡ 0
  pub free : Independent n held

-- the masks start as the rows wanted, the wires with the first rows
pub going_start : (N n : ℕ) (wanted : List ℕ) → n ≤ N → length wanted ≡ N → ((i : ℕ) → get_or wanted i 0 < 2 ^ n)
    → Going N n 0 wanted wanted (first_rows N n)
going_start N n wanted fit wide less =
    record {
      wide = wide;
      tall = length-first N n;
      makes = λ i l. combine-first_rows N n (get_or wanted i 0) fit (less i);
      small = λ i l. less i;
      past = λ j l. absurd (omega arith);
      beyond = λ i l. first_rows_beyond N n i l;
      free = (first_sound N n fit).free;
    }

-- CNOTs into wire t, not a wire passed, keep it
into_keeps : {N n r : ℕ} {wanted masks held : List ℕ} → n ≤ N → Going N n r wanted masks held
    → (t q : ℕ) → r ≤ t → t < n → q < 2 ^ n → bit q t ≡ 0 → Going N n r wanted (recount t q masks) (xor_into t q held)
into_keeps {N} {n} {r} {wanted} {masks} {held} fit h t q lo hi less off =
    record {
      wide = length-recount t q masks ∙ h.wide;
      tall = length-set held t v ∙ h.tall;
      makes = λ i l. ap (λ (m : ℕ). combine m (xor_into t q held)) (recount_at t q i masks)
          ∙ combine-into (remask t q (get_or masks i 0)) t q held low
          ∙ ap (λ (m : ℕ). combine m held) (remask_twice t q off (get_or masks i 0)) ∙ h.makes i l;
      small = λ i l. rw (recount_at t q i masks) (remask_lt n t q (get_or masks i 0) less (h.small i l));
      past = λ j l. recount_at t q j masks ∙ ap (remask t q) (h.past j l) ∙ unmoved j (omega arith);
      beyond = λ i l. get_or-set_other held t i v 0 (omega arith) ∙ h.beyond i l;
      free = λ s ne l e. h.free (remask t q s) (remask_nonzero t q off s ne) (remask_lt n t q s less l)
          (sym (combine-into s t q held low) ∙ e);
    }
  where
    v : ℕ
    v = bit_xor (get_or held t 0) (combine q held)

    low : t < length held
    low = omega (arith, h.tall)

    unmoved : (j : ℕ) → j ≢ t → remask t q (2 ^ j) ≡ 2 ^ j
    unmoved j ne = rw (bit-pow_other j t ne, zero-mul q) (xor_zero_r (2 ^ j))

-- ---- one row: the two masks of CNOTs, for a mask m with pivot b

-- at most one wire
bits_one : (n c r : ℕ) → c < 2 → sum n (λ i. bit (c * 2 ^ r) i) ≤ c
bits_one n zero r h =
    omega (arith, sum-ext n (λ i. bit (0 * 2 ^ r) i) (λ i. 0) (λ i l. rw (zero-mul (2 ^ r)) (bit-of_zero i)), sum-zero n)
bits_one n (suc zero) r h = go (dec_lt r n)
  where
    go : Dec (r < n) → sum n (λ i. bit (1 * 2 ^ r) i) ≤ 1
    go (yes l) =
        omega (
          arith,
          sum-single n r (λ i. bit (1 * 2 ^ r) i) l (λ i li ne. rw (one-mul (2 ^ r)) (bit-pow_other r i (λ e. ne (sym e)))),
          bit-lt (1 * 2 ^ r) r,
        )
    go (no g) =
        omega (
          arith,
          sum-ext n (λ i. bit (1 * 2 ^ r) i) (λ i. 0) (λ i li. rw (one-mul (2 ^ r)) (bit-pow_other r i (omega arith))),
          sum-zero n,
        )
bits_one n (suc (suc c)) r h = absurd (omega arith)

module _ {n r m b : ℕ} (p : Names n r m b) (less : m < 2 ^ n) where
  lack_off : bit (lack r m) b ≡ 0
  lack_off = go (bit-values (bit m r) (bit-lt m r)) (ℕ_discrete r b)
    where
      go : (bit m r ≡ 0) ⊎ (bit m r ≡ 1) → Dec (r ≡ b) → bit (lack r m) b ≡ 0
      go (inl e) (yes q) = absurd (omega (arith, ap (bit m) q, p.named))
      go (inl e) (no q) = rw (e, one-mul (2 ^ r)) (bit-pow_other r b q)
      go (inr e) d = rw (e, zero-mul (2 ^ r)) (bit-of_zero b)

  wire : 2 ^ r < 2 ^ n
  wire = pow-lt (omega (arith, p.from, p.inside))

  lack_less : lack r m < 2 ^ n
  lack_less = scale_lt (1 - bit m r) (2 ^ r) (2 ^ n) (omega arith) wire

  full : ℕ
  full = remask b (lack r m) m

  full_is : full ≡ bit_xor m (lack r m)
  unfolding full
  full_is = rw (p.named, one-mul (lack r m))

  full_on : bit full r ≡ 1
  full_on =
      ap (λ (x : ℕ). bit x r) full_is ∙ bit-xor m (lack r m) r
      ∙ ap (λ (x : ℕ). (bit m r + x) % 2)
      (bit-scale (1 - bit m r) (2 ^ r) r (omega arith) ∙ ap (λ (x : ℕ). (1 - bit m r) * x) (bit-pow_same r))
      ∙ omega (arith, bit-lt m r)

  full_less : full < 2 ^ n
  unfolding full
  full_less = remask_lt n b (lack r m) m lack_less less

  surplus_off : bit (bit_xor full (2 ^ r)) r ≡ 0
  surplus_off = flip_same full r ∙ ap (λ (c : ℕ). (c + 1) % 2) full_on

  surplus_less : bit_xor full (2 ^ r) < 2 ^ n
  surplus_less = xor_lt n full (2 ^ r) full_less wire

  -- the mask ends as 2 ^ r
  mask_ends : remask r (bit_xor full (2 ^ r)) full ≡ 2 ^ r
  mask_ends =
      rw (full_on, one-mul (bit_xor full (2 ^ r)))
      (sym (xor_assoc full full (2 ^ r)) ∙ ap (λ (x : ℕ). bit_xor x (2 ^ r)) (xor_self full))

-- ---- from r rows passed to r + 1

-- the rows held between the CNOTs of row r, with pivot b, and after them
abbrev between : ℕ → ℕ → List ℕ → List ℕ → List ℕ
between r b masks held = xor_into b (lack r (get_or masks r 0)) held

abbrev pub held_after : ℕ → ℕ → List ℕ → List ℕ → List ℕ
held_after r b masks held = xor_into r (surplus r b masks) (between r b masks held)

module _ {N n r b : ℕ} {wanted masks held : List ℕ} (fit : n ≤ N) (h : Going N n r wanted masks held)
    (p : Names n r (get_or masks r 0) b) where
  abbrev m : ℕ
  m = get_or masks r 0

  inside : r < n
  inside = omega (arith, p.from, p.inside)

  less : m < 2 ^ n
  less = h.small r inside

  off₁ : bit (lack r m) b ≡ 0
  off₁ = lack_off p less

  less₁ : lack r m < 2 ^ n
  less₁ = lack_less p less

  -- the mask that the second CNOTs go by
  full_at : get_or (filled r b masks) r 0 ≡ full p less
  unfolding full
  full_at = recount_at b (lack r m) r masks

  off₂ : bit (surplus r b masks) r ≡ 0
  off₂ = rw full_at (surplus_off p less)

  less₂ : surplus r b masks < 2 ^ n
  less₂ = rw full_at (surplus_less p less)

  half : Going N n r wanted (filled r b masks) (between r b masks held)
  half = into_keeps fit h b (lack r m) p.from p.inside less₁ off₁

  pub row_keeps : Going N n (suc r) wanted (next_masks r b masks) (held_after r b masks held)
  row_keeps =
      record {
        wide = g.wide;
        tall = g.tall;
        makes = g.makes;
        small = g.small;
        past = λ j l. at j l (ℕ_discrete j r);
        beyond = g.beyond;
        free = g.free;
      }
    where
      g : Going N n r wanted (next_masks r b masks) (held_after r b masks held)
      g = into_keeps fit half r (surplus r b masks) (le_refl r) inside less₂ off₂

      last : get_or (next_masks r b masks) r 0 ≡ 2 ^ r
      last = recount_at r (surplus r b masks) r (filled r b masks) ∙ rw full_at (mask_ends p less)

      at : (j : ℕ) → j < suc r → Dec (j ≡ r) → get_or (next_masks r b masks) j 0 ≡ 2 ^ j
      at j l (yes e) = rw e last
      at j l (no e) = g.past j (omega arith)

  -- reading from s, whose rows are held
  pub row_reads : (s : Reading) → s.rows ≡ held → read_from (row_gates n r b masks) s ≡ with_rows (held_after r b masks held) s
  row_reads s e =
      let s₁ : Reading = with_rows (between r b masks held) s in
      read_append (cnots n (lack r m) b) (cnots n (surplus r b masks) r) s
      ∙ ap (read_from (cnots n (surplus r b masks) r))
      (read_cnots b s (rw e (omega (arith, h.tall, p.inside))) n (lack r m) less₁ off₁
      ∙ ap (λ (rows : List ℕ). with_rows (xor_into b (lack r m) rows) s) e)
      ∙ read_cnots r s₁ (omega (arith, half.tall, inside)) n (surplus r b masks) less₂ off₂

  pub row_formed : AllWellFormed n (row_gates n r b masks)
  row_formed =
      formed_append n (cnots n (lack r m) b) (cnots n (surplus r b masks) r)
      (formed_cnots n n (lack r m) b (le_refl n) p.inside off₁)
      (formed_cnots n n (surplus r b masks) r (le_refl n) inside off₂)

  -- at most n gates
  pub row_length : length (row_gates n r b masks) ≤ n
  row_length =
      omega (
        arith,
        length-append (cnots n (lack r m) b) (cnots n (surplus r b masks) r),
        length-cnots n (lack r m) b,
        bits_one n (1 - bit m r) r (omega arith),
        fewer_cnots n (surplus r b masks) r r inside off₂,
      )
