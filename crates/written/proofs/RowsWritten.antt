-- Writing rows: sound rows are brought about by at most n * n CNOTs. Where a mask has no pivot, the rows are dependent; where every mask
-- has one, they are independent. Over n and N.
use mathlib.Core.List.{◌++◌, List, []}
use mathlib.Core.Logic.{◌≢◌}
use mathlib.Core.Path.{ap, ap₂, refl, subst, sym, ◌∙◌, ◌≡◌}
use Prim.Native.Nat.{◌*◌, ◌+◌, ◌-◌, ◌<◌, ◌^◌, suc, zero, ℕ, ◌≤◌}
use native.Mathlib.Decide.{dec_lt}
use native.Mathlib.Nat.{mod-eq_of_lt, zero-add}
use native.Mathlib.Omega.{arith}
use lib.Bits.{bit_xor, xor_lt, xor_self}
use lib.ListN.{get_or, length, length-append}
use lib.Pow.{pow-lt}
use lib.Seq.{ext_get_or}
use Rattle.circuit.proofs.Sound.{read_append}
use Rattle.circuit.specs.Faults.{AllWellFormed}
use Rattle.circuit.specs.Gate.{Gate}
use Rattle.circuit.specs.Read.{Reading, first_rows, read_from, with_rows}
use Rattle.circuit.specs.Sound.{SoundRows}
use Rattle.gf2.proofs.BitCounts.{bits_below}
use Rattle.gf2.proofs.XorInto.{combine-agree}
use Rattle.gf2.proofs.Selection.{combine-one, combine-xor}
use Rattle.gf2.proofs.Xor.{xor_cancel}
use Rattle.gf2.specs.Bit.{bit}
use Rattle.gf2.specs.Selection.{Independent, combine}
use Rattle.written.proofs.Cnots.{kinds_cnots}
use Rattle.written.proofs.Lists.{formed_append, kinds_append}
use Rattle.written.proofs.MaskSteps.{Going, going_start, held_after, row_formed, row_keeps, row_length, row_reads}
use Rattle.written.proofs.Pivots.{Names, pivot_none, pivot_some}
use Rattle.written.specs.Faults.{Shaped}
use Rattle.written.specs.Spelling.{kinds_at}
use Rattle.written.specs.Writing.{cnots, lack, next_masks, pivot, row_gates, rows_from, surplus, write_rows}

-- some combination of the rows but the empty one is 0
pub record Dependent (n : ℕ) (rows : List ℕ) : Type 0 where
  pub mask : ℕ
  pub some : mask ≢ 0
  pub less : mask < 2 ^ n
  pub cancels : combine mask rows ≡ 0

no_pivot : (N n r : ℕ) (wanted masks held : List ℕ) → Going N n r wanted masks held → r < n
    → ((b : ℕ) → r ≤ b → b < n → bit (get_or masks r 0) b ≡ 0) → Dependent n wanted
no_pivot N n r wanted masks held h l empty =
    record {
      mask = bit_xor m (2 ^ r);
      some = λ e. apart (sym (xor_cancel m (2 ^ r)) ∙ ap (λ (x : ℕ). bit_xor x (2 ^ r)) e);
      less = xor_lt n m (2 ^ r) (h.small r l) (pow-lt l);
      cancels = combine-xor m (2 ^ r) wanted ∙ ap₂ bit_xor made (combine-one r wanted) ∙ xor_self (get_or wanted r 0);
    }
  where
    m : ℕ
    m = get_or masks r 0

    e : r + (n - r) ≡ n
    e = omega arith

    low : m < 2 ^ r
    low = bits_below (n - r) r m (rw e (h.small r l)) (λ b lo hi. empty b lo (omega arith))

    apart : m ≡ 2 ^ r → ⊥
    apart q = omega (arith, low)

    -- the rows passed are held
    same : (j : ℕ) → j < r → get_or held j 0 ≡ get_or wanted j 0
    same j lj = sym (combine-one j held) ∙ ap (λ (x : ℕ). combine x held) (sym (h.past j lj)) ∙ h.makes j (omega arith)

    made : combine m wanted ≡ get_or wanted r 0
    made =
        ap (λ (x : ℕ). combine x wanted) (sym (mod-eq_of_lt low)) ∙ sym (combine-agree r m held wanted same)
        ∙ ap (λ (x : ℕ). combine x held) (mod-eq_of_lt low) ∙ h.makes r l

-- ---- what a loop over the rows knows

module _ {N n r : ℕ} {wanted masks held : List ℕ} (h : Going N n r wanted masks held) (inside : r < n) where
  pub going_stops : n ≤ pivot n r (get_or masks r 0) → Dependent n wanted
  going_stops g = no_pivot N n r wanted masks held h inside (pivot_none n r (get_or masks r 0) (omega arith) g)

  pub going_next : n ≤ N → (b : ℕ) → b ≡ pivot n r (get_or masks r 0) → b < n
      → Going N n (suc r) wanted (next_masks r b masks) (held_after r b masks held)
  going_next fit b e l = rw e (row_keeps fit h (pivot_some n r (get_or masks r 0) (omega arith) (rw e at l)))

-- all masks are 2 ^ i: the rows are there
all_past : {N n : ℕ} {wanted masks held : List ℕ} → Shaped N n wanted → Going N n n wanted masks held → held ≡ wanted
all_past {N} {n} {wanted} {masks} {held} s h = ext_get_or 0 held wanted (h.tall ∙ sym s.long) (λ i l. at i (dec_lt i n))
  where
    at : (i : ℕ) → Dec (i < n) → get_or held i 0 ≡ get_or wanted i 0
    at i (yes l) = sym (combine-one i held) ∙ ap (λ (x : ℕ). combine x held) (sym (h.past i l)) ∙ h.makes i l
    at i (no g) = h.beyond i (omega arith) ∙ sym (s.beyond i (omega arith))

pub going_ends : {N n : ℕ} {wanted masks held : List ℕ} → Shaped N n wanted → Going N n n wanted masks held → Independent n wanted
going_ends {N} {n} s h = subst (λ (rows : List ℕ). Independent n rows) (all_past s h) h.free

-- sound rows are shaped, and never lack a pivot
pub shape : {N n : ℕ} {rows : List ℕ} → SoundRows N n rows → Shaped N n rows
shape s = record { long = s.long; within = s.within; beyond = s.beyond }

pub sound_pivot : {N n r : ℕ} {wanted masks held : List ℕ} → SoundRows N n wanted → Going N n r wanted masks held → r < n
    → pivot n r (get_or masks r 0) < n
sound_pivot {N} {n} {r} {wanted} {masks} {held} sound h l = go (dec_lt (pivot n r (get_or masks r 0)) n)
  where
    go : Dec (pivot n r (get_or masks r 0) < n) → pivot n r (get_or masks r 0) < n
    go (yes g) = g
    go (no g) = let d = going_stops h l (omega arith) in absurd (sound.free d.mask d.some d.less d.cancels)

-- ---- the gates

-- gates that bring the rows held to those wanted: k rows, at most n gates each
pub record Brings (n k : ℕ) (held wanted : List ℕ) (gs : List Gate) : Type 0 where
  pub reads : (r : Reading) → r.rows ≡ held → read_from gs r ≡ with_rows wanted r
  pub formed : AllWellFormed n gs
  pub short : length gs ≤ k * n

-- a row's gates before the gates of the rows after it
brings_after : {n k : ℕ} {held between wanted : List ℕ} {xs ys : List Gate} → Brings n 1 held between xs → Brings n k between wanted ys
    → Brings n (suc k) held wanted (xs ++ ys)
brings_after {n} {k} {held} {between} {wanted} {xs} {ys} a b =
    record {
      reads = λ r e. read_append xs ys r ∙ ap (read_from ys) (a.reads r e) ∙ b.reads (with_rows between r) refl;
      formed = formed_append n xs ys a.formed b.formed;
      short = omega (arith, length-append xs ys, a.short, b.short);
    }

module _ (N n : ℕ) (fit : n ≤ N) (wanted : List ℕ) (sound : SoundRows N n wanted) where
  row_brings : {r : ℕ} {masks held : List ℕ} {b : ℕ} → Going N n r wanted masks held → Names n r (get_or masks r 0) b
      → Brings n 1 held (held_after r b masks held) (row_gates n r b masks)
  row_brings h p = record { reads = row_reads fit h p; formed = row_formed fit h p; short = omega (arith, row_length fit h p) }

  rows_bring : (k r : ℕ) (masks held : List ℕ) → r + k ≡ n → Going N n r wanted masks held → Brings n k held wanted (rows_from n k r masks)
  unfolding rows_from read_from
  rows_bring zero r masks held e h =
      let z : r ≡ n = omega arith in
      let same : held ≡ wanted = all_past (shape sound) (rw z at h) in
      record { reads = λ s g. ap (λ (rows : List ℕ). with_rows rows s) (g ∙ same); formed = tt; short = omega arith }
  rows_bring (suc k) r masks held e h =
      let l : r < n = omega arith in
      let p = pivot_some n r (get_or masks r 0) (omega arith) (sound_pivot sound h l) in
      brings_after (row_brings h p) (rows_bring k (suc r) _ _ (omega arith) (row_keeps fit h p))

  pub rows_written : Brings n n (first_rows N n) wanted (write_rows n wanted)
  rows_written = rows_bring n 0 wanted (first_rows N n) (zero-add n) (going_start N n wanted fit sound.long sound.within)

-- no phase is added
pub kinds_rows : (p n k r : ℕ) (masks : List ℕ) (s : Reading) → kinds_at p (rows_from n k r masks) s ≡ []
unfolding rows_from kinds_at
kinds_rows p n zero r masks s = refl
kinds_rows p n (suc k) r masks s =
    let b : ℕ = pivot n r (get_or masks r 0) in
    let xs : List Gate = cnots n (lack r (get_or masks r 0)) b in
    let ys : List Gate = cnots n (surplus r b masks) r in
    kinds_append p (xs ++ ys) (rows_from n k (suc r) (next_masks r b masks)) s
    ∙ rw (
      kinds_append p xs ys s,
      kinds_cnots p n (lack r (get_or masks r 0)) b s,
      kinds_cnots p n (surplus r b masks) r (read_from xs s),
    ) (kinds_rows p n k (suc r) (next_masks r b masks) (read_from (xs ++ ys) s))
