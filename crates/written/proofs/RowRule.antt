-- Fault 7, and that rows have it exactly where they are not sound.
use mathlib.Core.List.{List, [], ◌∷◌}
use mathlib.Core.Logic.{◌↔◌, ◌≢◌}
use mathlib.Core.Path.{ap, refl, subst, sym, ◌∙◌, ◌≡◌}
use Prim.Native.Nat.{◌+◌, ◌-◌, ◌<◌, ◌^◌, suc, suc-le-suc, zero, zero-le, ℕ, ◌≤◌}
use native.Mathlib.Decide.{dec_le, dec_lt, ℕ_discrete}
use native.Mathlib.Nat.{le_refl, zero-add}
use native.Mathlib.Numerals.{add-one}
use native.Mathlib.Omega.{arith}
use lib.Dec.{eqb}
use lib.ListN.{get_or-eq_default, drop, get_or, length}
use lib.Pow.{pow_pos}
use lib.Seq.{drop-cons, drop-length}
use borrow.Author.Tests.{eq-eqb, le-leb, le-ltb, lt-leb, lt-ltb, ne_eqb}
use Rattle.circuit.proofs.Judging.{or_first, or_pass, or_second, or_well}
use Rattle.circuit.specs.Faults.{or_else, row_rule}
use Rattle.circuit.specs.Read.{either}
use Rattle.circuit.specs.Sound.{SoundRows}
use Rattle.gf2.specs.Selection.{Independent, combine}
use Rattle.written.proofs.RowsWritten.{Dependent, shape}
use Rattle.written.specs.Faults.{Shaped, beyond_fault, cancel_fault, row_most, rows_fault}

-- ---- a bit or row beyond n

module _ (n i : ℕ) where
  pub most_inside : i < n → 2 ^ n - 1 ≡ row_most n i
  most_inside l = simp (lt-ltb i n l)

  pub most_beyond : n ≤ i → 0 ≡ row_most n i
  most_beyond l = simp (le-ltb i n l)

-- one turn of the loop, and its end
module _ (n i : ℕ) (rows : List ℕ) where
  pub row_good : i < length rows → get_or rows i 0 ≤ row_most n i
      → beyond_fault n (i + 1) (drop (i + 1) rows) ≡ beyond_fault n i (drop i rows)
  unfolding beyond_fault
  row_good h l = rw (add-one i, drop-cons rows i 0 h) (simp (le-leb (get_or rows i 0) (row_most n i) l))

  pub row_bad : i < length rows → row_most n i < get_or rows i 0 → row_rule ≡ beyond_fault n i (drop i rows)
  unfolding beyond_fault
  row_bad h l = rw (drop-cons rows i 0 h) (simp (lt-leb (get_or rows i 0) (row_most n i) l))

  pub row_end : i ≡ length rows → 0 ≡ beyond_fault n i (drop i rows)
  unfolding beyond_fault
  row_end e = rw (e, drop-length rows)

-- no fault: every row is at most what it may be
beyond_all : (n i : ℕ) (rows : List ℕ) → beyond_fault n i rows ≡ 0 → (k : ℕ) → k < length rows → get_or rows k 0 ≤ row_most n (i + k)
unfolding beyond_fault
beyond_all n i [] e k l = absurd (omega arith)
beyond_all n i (x ∷ rows) e k l = go (dec_le x (row_most n i)) k l (λ f j h. beyond_all n (suc i) rows f j h)
  where
    go : Dec (x ≤ row_most n i) → (k : ℕ) → k < suc (length rows)
        → (beyond_fault n (suc i) rows ≡ 0 → (j : ℕ) → j < length rows → get_or rows j 0 ≤ row_most n (suc i + j))
        → get_or (x ∷ rows) k 0 ≤ row_most n (i + k)
    go (no g) k l r = absurd (omega (arith, simp (lt-leb x (row_most n i) (omega arith)) at e))
    go (yes g) zero l r = let z : i + 0 ≡ i = omega arith in rw z g
    go (yes g) (suc j) l r =
        let z : i + suc j ≡ suc i + j = omega arith in
        rw z (r (simp (le-leb x (row_most n i) g) at e) j (omega arith))

beyond_none : (n i : ℕ) (rows : List ℕ) → ((k : ℕ) → k < length rows → get_or rows k 0 ≤ row_most n (i + k)) → beyond_fault n i rows ≡ 0
unfolding beyond_fault
beyond_none n i [] h = refl
beyond_none n i (x ∷ rows) h =
    let z : i + 0 ≡ i = omega arith in
    let g : x ≤ row_most n i = subst (λ (j : ℕ). x ≤ row_most n j) z (h 0 (suc-le-suc zero-le)) in
    rw (le-leb x (row_most n i) g)
    (beyond_none n (suc i) rows (λ k l. subst (λ (j : ℕ). get_or rows k 0 ≤ row_most n j) (shift i k) (h (suc k) (suc-le-suc l))))
  where
    shift : (i k : ℕ) → i + suc k ≡ suc i + k
    shift i k = omega arith

pub shaped : (N n : ℕ) (rows : List ℕ) → length rows ≡ N → beyond_fault n 0 rows ≡ 0 → Shaped N n rows
shaped N n rows e f =
    record { long = e; within = λ i. less i (dec_lt i (length rows)) (dec_lt i n); beyond = λ i h. none i h (dec_lt i (length rows)) }
  where
    most : (i : ℕ) → i < length rows → get_or rows i 0 ≤ row_most n i
    most i l = subst (λ (j : ℕ). get_or rows i 0 ≤ row_most n j) (zero-add i) (beyond_all n 0 rows f i l)

    none : (i : ℕ) → n ≤ i → Dec (i < length rows) → get_or rows i 0 ≡ 0
    none i h (no g) = get_or-eq_default rows 0 (omega arith)
    none i h (yes l) = omega (arith, most i l, most_beyond n i h)

    less : (i : ℕ) → Dec (i < length rows) → Dec (i < n) → get_or rows i 0 < 2 ^ n
    less i d (no g) = omega (arith, none i (omega arith) d, pow_pos n)
    less i (yes l) (yes h) = omega (arith, most i l, most_inside n i h, pow_pos n)
    less i (no g) (yes h) = let z : get_or rows i 0 ≡ 0 = get_or-eq_default rows 0 (omega arith) in omega (arith, pow_pos n)

shaped_clear : (N n : ℕ) (rows : List ℕ) → Shaped N n rows → beyond_fault n 0 rows ≡ 0
shaped_clear N n rows s =
    beyond_none n 0 rows (λ i l. subst (λ (j : ℕ). get_or rows i 0 ≤ row_most n j) (sym (zero-add i)) (at i (dec_lt i n)))
  where
    at : (i : ℕ) → Dec (i < n) → get_or rows i 0 ≤ row_most n i
    at i (yes l) = omega (arith, most_inside n i l, s.within i)
    at i (no g) = omega (arith, most_beyond n i (omega arith), s.beyond i (omega arith))

-- ---- a combination that is 0

cancel_some : (k : ℕ) (rows : List ℕ) (s : ℕ) → s ≢ 0 → s ≤ k → combine s rows ≡ 0 → row_rule ≡ cancel_fault k rows
unfolding cancel_fault
cancel_some zero rows s ne l e = absurd (omega arith)
cancel_some (suc k) rows s ne l e = go (ℕ_discrete (combine (suc k) rows) 0) (λ h. cancel_some k rows s ne h e)
  where
    go : Dec (combine (suc k) rows ≡ 0) → (s ≤ k → row_rule ≡ cancel_fault k rows)
        → row_rule ≡ either (eqb (combine (suc k) rows) 0) row_rule (cancel_fault k rows)
    go (yes z) f = simp (eq-eqb (combine (suc k) rows) 0 z)
    go (no z) f = rw (ne_eqb (combine (suc k) rows) 0 z) (f (below (ℕ_discrete s (suc k))))
      where
        below : Dec (s ≡ suc k) → s ≤ k
        below (yes q) = absurd (z (ap (λ (m : ℕ). combine m rows) (sym q) ∙ e))
        below (no q) = omega arith

cancel_none : (k : ℕ) (rows : List ℕ) → ((s : ℕ) → s ≢ 0 → s ≤ k → combine s rows ≢ 0) → 0 ≡ cancel_fault k rows
unfolding cancel_fault
cancel_none zero rows h = refl
cancel_none (suc k) rows h =
    rw (ne_eqb (combine (suc k) rows) 0 (h (suc k) (omega arith) (le_refl (suc k)))) (cancel_none k rows (λ s ne l. h s ne (omega arith)))

module _ (n : ℕ) (rows : List ℕ) where
  pub dependent_fault : Dependent n rows → row_rule ≡ cancel_fault (2 ^ n - 1) rows
  dependent_fault d = cancel_some (2 ^ n - 1) rows d.mask d.some (omega (arith, d.less)) d.cancels

  pub independent_clear : Independent n rows → 0 ≡ cancel_fault (2 ^ n - 1) rows
  independent_clear f = cancel_none (2 ^ n - 1) rows (λ s ne l. f s ne (omega (arith, pow_pos n)))

  clear_independent : cancel_fault (2 ^ n - 1) rows ≡ 0 → Independent n rows
  clear_independent e s ne l z = let q : row_rule ≡ 0 = cancel_some (2 ^ n - 1) rows s ne (omega arith) z ∙ e in omega arith

-- ---- the rows

module _ (N n : ℕ) (rows : List ℕ) where
  pub other_length : length rows ≢ N → row_rule ≡ rows_fault N n rows
  unfolding rows_fault
  other_length h = simp (ne_eqb (length rows) N h)

  right_length : length rows ≡ N → or_else (beyond_fault n 0 rows) (cancel_fault (2 ^ n - 1) rows) ≡ rows_fault N n rows
  unfolding rows_fault
  right_length e = simp (eq-eqb (length rows) N e)

  module _ (long : length rows ≡ N) (f : ℕ) (e : f ≡ beyond_fault n 0 rows) where
    pub rows_beyond : f ≢ 0 → f ≡ rows_fault N n rows
    rows_beyond h =
        or_first f (cancel_fault (2 ^ n - 1) rows) h ∙ ap (λ (x : ℕ). or_else x (cancel_fault (2 ^ n - 1) rows)) e ∙ right_length long

    pub rows_cancel : f ≡ 0 → cancel_fault (2 ^ n - 1) rows ≡ rows_fault N n rows
    rows_cancel z = or_second (beyond_fault n 0 rows) (cancel_fault (2 ^ n - 1) rows) (sym e ∙ z) ∙ right_length long

  -- no fault exactly where the rows are sound
  pub rows_sound : (rows_fault N n rows ≡ 0) ↔ SoundRows N n rows
  rows_sound = (λ e. to e (ℕ_discrete (length rows) N), from)
    where
      to : rows_fault N n rows ≡ 0 → Dec (length rows ≡ N) → SoundRows N n rows
      to e (no g) = absurd (omega (arith, e, other_length g))
      to e (yes l) =
          let a = or_pass (beyond_fault n 0 rows) (cancel_fault (2 ^ n - 1) rows) (right_length l ∙ e) in
          let s = shaped N n rows l a.0 in
          record { long = l; within = s.within; beyond = s.beyond; free = clear_independent n rows a.1 }

      from : SoundRows N n rows → rows_fault N n rows ≡ 0
      from s =
          sym (right_length s.long)
          ∙ or_well (beyond_fault n 0 rows) (cancel_fault (2 ^ n - 1) rows) (shaped_clear N n rows (shape s))
          (sym (independent_clear n rows s.free))
