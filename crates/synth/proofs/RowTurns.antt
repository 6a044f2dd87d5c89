-- Writing the rows: one turn, and the end, of each loop of the code, and each way out of a test, over plain numbers and lists.
use mathlib.Core.List.{◌++◌, List, [], append_assoc, append-nil}
use mathlib.Core.Logic.{◌≢◌}
use mathlib.Core.Path.{ap, refl, subst, sym, ◌∙◌, ◌≡◌}
use Prim.Native.Nat.{◌+◌, ◌-◌, ◌<◌, ◌^◌, suc, zero, ℕ, ◌≤◌}
use native.Mathlib.Decide.{ℕ_discrete}
use native.Mathlib.Nat.{one-mul, sub-zero, zero-mul}
use native.Mathlib.Numerals.{add-one}
use native.Mathlib.Omega.{arith}
use lib.Bits.{bit_xor, xor_zero_r}
use lib.ListN.{get_or, length, set}
use lib.Seq.{get_or-set_other}
use Rattle.std.specs.Prelude.{Err, IsOk, MatchOption, None, Ok, Option, Result, Some}
use Rattle.circuit.proofs.Filling.{put_filled, put_long}
use Rattle.circuit.specs.Gate.{Gate}
use Rattle.circuit.specs.Limits.{max_wires}
use Rattle.circuit.specs.Read.{first_rows}
use Rattle.gf2.proofs.Bit.{bit-lt}
use Rattle.gf2.proofs.Selection.{remask}
use Rattle.gf2.proofs.Table.{Filled, filled_all}
use Rattle.gf2.specs.Bit.{bit}
use Rattle.written.proofs.MaskSteps.{Going, going_start, held_after, length-recount, recount_at}
use Rattle.written.proofs.Pivots.{pivot_hit, pivot_miss}
use Rattle.written.proofs.RowRule.{dependent_fault, independent_clear}
use Rattle.written.proofs.RowsWritten.{going_ends, going_next, going_stops, sound_pivot}
use Rattle.written.specs.Faults.{Shaped, cancel_fault}
use Rattle.written.specs.Writing.{cnots, lack, pivot, pivot_from, recount, rows_from, write_rows}
use Rattle.synth.proofs.Stores.{room_first, room_then, stored_none, stored_then}
use Rattle.synth.specs.Storing.{NextRow, Room, RowsReady, Solved, Stepped, Stored, Stuck}
use Rattle.circuit.specs.Told.{number}
use Rattle.circuit.specs.declared.faults.Fault.{Fault}
use Rattle.circuit.specs.declared.wires.Wires.{Wires}
use Rattle.synth.specs.declared.masks.Step.{Step}
use Rattle.synth.specs.declared.solving.Solving.{Solving}
use Rattle.synth.specs.declared.storing.Writer.{Writer}

-- ---- the masks

-- the first i masks are recounted, the others are as they were
pub record Recounted (t q : ℕ) (masks s : List ℕ) (i : ℕ) : Type 0 where
  pub long : length s ≡ length masks
  pub filled : Filled s (recount t q masks) i
  pub ahead : (k : ℕ) → i ≤ k → get_or s k 0 ≡ get_or masks k 0

pub recount_first : (t q : ℕ) (masks : List ℕ) → Recounted t q masks masks 0
recount_first t q masks = record { long = refl; filled = λ k h. absurd (omega arith); ahead = λ k h. refl }

-- x is what mask i becomes
pub recount_next : {t q : ℕ} {masks s s' : List ℕ} {i x : ℕ} → Recounted t q masks s i → i < length masks
    → s' ≡ set s i x → x ≡ get_or (recount t q masks) i 0 → Recounted t q masks s' (i + 1)
recount_next {t} {q} {masks} {s} {s'} {i} {x} h l es ex =
    record {
      long = put_long s s' i x es ∙ h.long;
      filled = put_filled s s' i x es (recount t q masks) (omega (arith, h.long)) h.filled ex;
      ahead = λ k g. rw es (get_or-set_other s i k x 0 (omega arith)) ∙ h.ahead k (omega arith);
    }

module _ {t q : ℕ} {masks s : List ℕ} {i : ℕ} (h : Recounted t q masks s i) (l : i < length masks) where
  -- what mask i becomes
  becomes : remask t q (get_or s i 0) ≡ get_or (recount t q masks) i 0
  becomes = ap (remask t q) (h.ahead i (omega arith)) ∙ sym (recount_at t q i masks)

  pub recount_named : {s' : List ℕ} → bit (get_or s i 0) t ≡ 1 → s' ≡ set s i (bit_xor (get_or s i 0) q) → Recounted t q masks s' (i + 1)
  recount_named {s'} named es = recount_next h l es (sym (rw (named, one-mul q)) ∙ becomes)

  pub recount_other : {s' : List ℕ} → bit (get_or s i 0) t ≢ 1 → s' ≡ set s i (get_or s i 0) → Recounted t q masks s' (i + 1)
  recount_other {s'} other es = recount_next h l es (sym (rw (off, zero-mul q, xor_zero_r (get_or s i 0))) ∙ becomes)
    where
      off : bit (get_or s i 0) t ≡ 0
      off = omega (arith, bit-lt (get_or s i 0) t)

pub recount_last : {t q : ℕ} {masks s : List ℕ} {i : ℕ} → Recounted t q masks s i → length masks ≤ i → s ≡ recount t q masks
recount_last {t} {q} {masks} {s} {i} h end =
    filled_all s (recount t q masks) i (simp length-recount (omega (arith, h.long))) (simp length-recount (omega arith)) h.filled

-- ---- the pivot

left_one : (n b : ℕ) → b < n → n - b ≡ suc (n - (b + 1))
left_one n b l = omega arith

-- the first wire that is named is the pivot
at_first : (k r m b : ℕ) → r ≤ b → b < r + k → bit m b ≡ 1 → ((j : ℕ) → r ≤ j → j < b → bit m j ≡ 0) → b ≡ pivot_from k r m
at_first zero r m b lo hi named passed = absurd (omega arith)
at_first (suc k) r m b lo hi named passed =
    go (ℕ_discrete b r) (λ l. at_first k (suc r) m b l (omega arith) named (λ j f t. passed j (omega arith) t))
  where
    go : Dec (b ≡ r) → (suc r ≤ b → b ≡ pivot_from k (suc r) m) → b ≡ pivot_from (suc k) r m
    go (yes e) f = e ∙ sym (pivot_hit k r m (ap (bit m) (sym e) ∙ named))
    go (no e) f = f (omega arith) ∙ sym (pivot_miss k r m (passed r (omega arith) (omega arith)))

-- where none is, there is no pivot
none_first : (k r m : ℕ) → ((j : ℕ) → r ≤ j → j < r + k → bit m j ≡ 0) → r + k ≤ pivot_from k r m
unfolding pivot_from
none_first zero r m passed = omega arith
none_first (suc k) r m passed =
    omega (
      arith,
      pivot_miss k r m (passed r (omega arith) (omega arith)),
      none_first k (suc r) m (λ j f t. passed j (omega arith) (omega arith)),
    )

-- what a search from r on below n has found
pub pivot_found : (n r m : ℕ) → r ≤ n → (found : Option ℕ)
    → MatchOption found
    ((j : ℕ) → r ≤ j → j < n → bit m j ≢ 1)
    (λ b. (r ≤ b) × (b < n) × (bit m b ≡ 1) × ((j : ℕ) → r ≤ j → j < b → bit m j ≢ 1))
    → MatchOption found (n ≤ pivot n r m) (λ b. (b < n) × (b ≡ pivot n r m))
pivot_found n r m l None h =
    omega (arith, none_first (n - r) r m (λ j f t. omega (arith, bit-lt m j, h j f (omega arith))))
pivot_found n r m l (Some b) h =
    (h.1, at_first (n - r) r m b h.0 (omega arith) h.2 (λ j f t. omega (arith, bit-lt m j, h.3 j f t)))

-- ---- what a mask lacks

pub lack_none : (r m : ℕ) → bit m r ≡ 1 → 0 ≡ lack r m
lack_none r m e = rw (e, zero-mul (2 ^ r))

pub lack_wire : (r m u : ℕ) → u ≡ 2 ^ r → bit m r ≢ 1 → u ≡ lack r m
lack_wire r m u eu h = let e : bit m r ≡ 0 = omega (arith, bit-lt m r) in eu ∙ rw (e, one-mul (2 ^ r))

-- ---- one row of masks

-- q is what mask r lacks, and p what it has too much after the first CNOTs
pub stepped : (masks full last : List ℕ) (r b q f u : ℕ) → q ≡ lack r (get_or masks r 0) → full ≡ recount b q masks
    → f ≡ get_or full r 0 → u ≡ 2 ^ r → last ≡ recount r (bit_xor f u) full
    → Stepped r b masks last (record { r = r; b = b; lack = q; surplus = bit_xor f u })
stepped masks full last r b q f u eq ef e eu el =
    record { row_is = refl; pivot_is = refl; lacks = eq; loses = rw (e, eu, ef, eq); leaves = rw (el, e, eu, ef, eq) }

-- ---- one row more

-- what is known after some rows: the masks combine rows that the wires may hold to those given
pub record SolvingTo (on : Wires) (rows : List ℕ) (s : Solving) : Type 0 where
  pub wires_are : s.wires ≡ on
  pub held : List ℕ
  pub going : Going max_wires on.count s.r rows s.masks held

pub solving_first : {on : Wires} {rows : List ℕ} {s : Solving} → s.wires ≡ on → s.masks ≡ rows → s.r ≡ 0 → length rows ≡ max_wires
    → ((i : ℕ) → get_or rows i 0 < 2 ^ on.count)
    → SolvingTo on rows s
solving_first {on} {rows} {s} ew em er long within =
    record {
      wires_are = ew;
      held = first_rows max_wires on.count;
      going = rw (em, er) (going_start max_wires on.count rows on.few long within);
    }

module _ {on : Wires} {rows : List ℕ} {s : Solving} (h : SolvingTo on rows s) where
  count_is : s.wires.count ≡ on.count
  count_is = ap (λ (w : Wires). w.count) h.wires_are

  module _ {step : Step} {s' : Solving} (x : Solved s step s') where
    row_inside : s.r < on.count
    row_inside = omega (arith, x.inside, count_is)

    row_pivot : (step.b < on.count) × (step.b ≡ pivot on.count s.r (get_or s.masks s.r 0))
    row_pivot = (rw count_is at x.within, rw count_is at x.pivot_is)

    pub solving_next : SolvingTo on rows s'
    solving_next =
        record {
          wires_are = x.wires_are ∙ h.wires_are;
          held = held_after s.r step.b s.masks h.held;
          going = rw (x.next, add-one s.r, x.stepped.leaves) (going_next h.going row_inside on.few step.b row_pivot.1 row_pivot.0);
        }

  -- a row without a pivot is dependent
  pub solving_stuck : {fault : Fault} → Stuck s fault → number fault ≡ cancel_fault (2 ^ on.count - 1) rows
  solving_stuck x =
      let none : on.count ≤ pivot on.count s.r (get_or s.masks s.r 0) = rw count_is at x.none in
      x.fault_is ∙ dependent_fault on.count rows (going_stops h.going (omega (arith, x.inside, count_is)) none)

  at_end : s.wires.count ≤ s.r → s.r ≡ on.count
  at_end l = omega (arith, s.inside, count_is)

  -- where no row is left, all were independent
  pub solving_last : s.wires.count ≤ s.r → Shaped max_wires on.count rows → 0 ≡ cancel_fault (2 ^ on.count - 1) rows
  solving_last l shaped = independent_clear on.count rows (going_ends shaped (rw (at_end l) at h.going))

-- ---- writing the rows

-- after some rows, the gates stored so far come first
pub record RowLoop (rows : List ℕ) (s : Solving) (to to' : Writer) : Type 0 where
  pub solving : SolvingTo to.wires rows s
  pub done : List Gate
  pub stored : Stored to to' done
  pub rest : done ++ rows_from to.wires.count (to.wires.count - s.r) s.r s.masks ≡ write_rows to.wires.count rows

pub rows_first : {to : Writer} {rows : List ℕ} {s : Solving} → RowsReady to rows → s.wires ≡ to.wires → s.masks ≡ rows → s.r ≡ 0
    → RowLoop rows s to to
rows_first {to} {rows} {s} ready ew em er =
    record {
      solving = solving_first ew em er ready.sound.long ready.sound.within;
      done = [];
      stored = stored_none to;
      rest = rw (em, er) (ap (λ (i : ℕ). rows_from to.wires.count i 0 rows) (sub-zero to.wires.count));
    }

module _ {rows : List ℕ} {s : Solving} {to to' : Writer} (l : RowLoop rows s to to') where
  pub rows_last : s.wires.count ≤ s.r → Stored to to' (write_rows to.wires.count rows)
  unfolding rows_from
  rows_last e = subst (λ (gs : List Gate). Stored to to' gs) all l.stored
    where
      none_left : 0 ≡ to.wires.count - s.r
      none_left = omega (arith, at_end l.solving e)

      all : l.done ≡ write_rows to.wires.count rows
      all = sym (append-nil l.done) ∙ ap (λ (i : ℕ). l.done ++ rows_from to.wires.count i s.r s.masks) none_left ∙ l.rest

  module _ (ready : RowsReady to rows) where
    -- each row has its pivot
    pub pivot_there : (s' : Solving) (row : Result Step Fault) → NextRow s (Some row) s' → IsOk row
    pivot_there s' (Ok step) x = refl
    pivot_there s' (Err fault) x =
        let inside : s.r < to.wires.count = omega (arith, x.inside, count_is l.solving) in
        let none : to.wires.count ≤ pivot to.wires.count s.r (get_or s.masks s.r 0) = rw (count_is l.solving) at x.none in
        absurd (omega (arith, none, sound_pivot ready.sound l.solving.going inside))

    module _ {step : Step} {s' : Solving} (x : Solved s step s') where
      abbrev n : ℕ
      n = to.wires.count

      -- the gates of this row, and those after it
      abbrev here : List Gate
      here = cnots n step.lack step.b ++ cnots n step.surplus step.r

      abbrev later : List Gate
      later = rows_from n (n - s'.r) s'.r s'.masks

      parts : rows_from n (n - s.r) s.r s.masks ≡ here ++ later
      unfolding rows_from
      parts =
          rw (
            left_one n s.r (row_inside l.solving x),
            ← (row_pivot l.solving x).1,
            x.stepped.row_is,
            x.stepped.lacks,
            x.stepped.loses,
            x.stepped.leaves,
            x.next,
            add-one s.r,
          )

      whole : l.done ++ (here ++ later) ≡ write_rows n rows
      whole = ap (λ (gs : List Gate). l.done ++ gs) (sym parts) ∙ l.rest

      fits : Room to' here
      fits =
          room_first to' here later
          (room_then l.stored (here ++ later) (subst (λ (gs : List Gate). Room to gs) (sym whole) ready.room))

      pub lack_room : Room to' (cnots to'.wires.count step.lack step.b)
      lack_room = rw l.stored.wires (room_first to' (cnots n step.lack step.b) (cnots n step.surplus step.r) fits)

      module _ {to₁ : Writer} (a : Stored to' to₁ (cnots to'.wires.count step.lack step.b)) where
        first : Stored to' to₁ (cnots n step.lack step.b)
        first = subst (λ (on : Wires). Stored to' to₁ (cnots on.count step.lack step.b)) l.stored.wires a

        same : to₁.wires ≡ to.wires
        same = a.wires ∙ l.stored.wires

        pub surplus_room : Room to₁ (cnots to₁.wires.count step.surplus step.r)
        surplus_room = rw same (room_then first (cnots n step.surplus step.r) fits)

        pub rows_next : {to₂ : Writer} → Stored to₁ to₂ (cnots to₁.wires.count step.surplus step.r) → RowLoop rows s' to to₂
        rows_next {to₂} d =
            record {
              solving = solving_next l.solving x;
              done = l.done ++ here;
              stored =
                  stored_then l.stored
                  (stored_then first (subst (λ (on : Wires). Stored to₁ to₂ (cnots on.count step.surplus step.r)) same d));
              rest = append_assoc l.done here later ∙ whole;
            }
