-- Fault 6: there is none exactly where weights, or marks, are sound, and no other fault than this one.
use mathlib.Core.List.{List, [], ◌∷◌}
use mathlib.Core.Logic.{◌≢◌, ◌↔◌}
use mathlib.Core.Path.{ap, refl, sym, ◌∙◌, ◌≡◌}
use Prim.Native.Nat.{◌+◌, ◌<◌, ◌^◌, suc, zero, ℕ, ◌≤◌}
use native.Mathlib.Decide.{dec_le, dec_lt, ℕ_discrete}
use native.Mathlib.Nat.{add-zero}
use native.Mathlib.Omega.{arith}
use lib.ListN.{get_or-eq_default, get_or, length}
use borrow.Author.Tests.{eq-eqb, le-leb, le-ltb, lt-leb, lt-ltb, ne_eqb}
use Rattle.circuit.proofs.Judging.{or_pass, or_well, refused, wires_pass, wires_well}
use Rattle.circuit.specs.Faults.{call_reply, or_else, table_rule, wires_fault}
use Rattle.circuit.specs.Limits.{max_mark, max_weight, max_wires, parities}
use Rattle.circuit.specs.Sound.{SoundMarks, SoundWeights, weight}
use Rattle.circuit.specs.TableFaults.{Marked, byte_fault, bytes_fault, call_fault, marks_fault, most_at, table_fault, weights_fault}
use Rattle.circuit.specs.Replies.{Done, Refused}

-- ---- one byte

module _ (n most p : ℕ) where
  pub most_at_none : p ≡ 0 → 0 ≡ most_at n most p
  most_at_none e = simp (eq-eqb p 0 e)

  pub most_inside : p ≢ 0 → p < 2 ^ n → most ≡ most_at n most p
  most_inside ne h = simp (ne_eqb p 0 ne, lt-ltb p (2 ^ n) h)

  pub most_beyond : p ≢ 0 → 2 ^ n ≤ p → 0 ≡ most_at n most p
  most_beyond ne h = simp (ne_eqb p 0 ne, le-ltb p (2 ^ n) h)

  module _ (x m : ℕ) (e : m ≡ most_at n most p) where
    byte_well : x ≤ m → 0 ≡ byte_fault n most p x
    byte_well h = rw (← e) (simp (le-leb x m h))

    byte_bad : m < x → table_rule ≡ byte_fault n most p x
    byte_bad h = rw (← e) (simp (lt-leb x m h))

byte_passes : (n most p x : ℕ) → byte_fault n most p x ≡ 0 → x ≤ most_at n most p
byte_passes n most p x e = go (most_at n most p) refl (dec_le x (most_at n most p))
  where
    go : (m : ℕ) → m ≡ most_at n most p → Dec (x ≤ most_at n most p) → x ≤ most_at n most p
    go m f (yes h) = h
    go m f (no h) = absurd (omega (arith, byte_bad n most p x m f (omega arith)))

-- ---- the length of a table

long_table : (size n most : ℕ) (table : List ℕ) → length table ≡ size → bytes_fault n most 0 table ≡ table_fault size n most table
unfolding table_fault
long_table size n most table e = simp (eq-eqb (length table) size e)

pub other_length : (size n most : ℕ) (table : List ℕ) → length table ≢ size → table_rule ≡ table_fault size n most table
unfolding table_fault
other_length size n most table ne = simp (ne_eqb (length table) size ne)

-- ---- no fault: the rule holds at each place

bytes_pass : (n most p : ℕ) (t : List ℕ) → bytes_fault n most p t ≡ 0 → (i : ℕ) → i < length t → get_or t i 0 ≤ most_at n most (p + i)
unfolding bytes_fault
bytes_pass n most p [] e i h = absurd (omega arith)
bytes_pass n most p (x ∷ xs) e zero h =
    let a = or_pass (byte_fault n most p x) (bytes_fault n most (suc p) xs) e in
    rw (add-zero p) (byte_passes n most p x a.0)
bytes_pass n most p (x ∷ xs) e (suc i) h =
    let a = or_pass (byte_fault n most p x) (bytes_fault n most (suc p) xs) e in
    let q : p + suc i ≡ suc p + i = omega arith in
    rw q (bytes_pass n most (suc p) xs a.1 i (omega arith))

bytes_well : (n most p : ℕ) (t : List ℕ) → ((i : ℕ) → i < length t → get_or t i 0 ≤ most_at n most (p + i)) → bytes_fault n most p t ≡ 0
unfolding bytes_fault
bytes_well n most p [] h = refl
bytes_well n most p (x ∷ xs) h =
    or_well (byte_fault n most p x) (bytes_fault n most (suc p) xs)
    (sym (byte_well n most p x (most_at n most p) refl (rw (add-zero p) at (h 0 (omega arith)))))
    (bytes_well n most (suc p) xs (λ i l. let q : p + suc i ≡ suc p + i = omega arith in rw q at (h (suc i) (omega arith))))

-- each byte at most what may stand there
abbrev pub Ruled : ℕ → ℕ → List ℕ → Type 0
Ruled n most t = (p : ℕ) → weight t p ≤ most_at n most p

table_passes : (size n most : ℕ) (t : List ℕ) → table_fault size n most t ≡ 0 → (length t ≡ size) × Ruled n most t
table_passes size n most t e = go (ℕ_discrete (length t) size)
  where
    go : Dec (length t ≡ size) → (length t ≡ size) × Ruled n most t
    go (no ne) = absurd (omega (arith, other_length size n most t ne))
    go (yes l) = (l, λ p. at p (dec_lt p (length t)))
      where
        at : (p : ℕ) → Dec (p < length t) → weight t p ≤ most_at n most p
        at p (yes h) = let q : 0 + p ≡ p = omega arith in rw q at (bytes_pass n most 0 t (long_table size n most t l ∙ e) p h)
        at p (no h) = let g : length t ≤ p = omega arith in rw (get_or-eq_default t 0 g) (omega arith)

pub table_well : (size n most : ℕ) (t : List ℕ) → length t ≡ size → Ruled n most t → table_fault size n most t ≡ 0
table_well size n most t l h =
    sym (long_table size n most t l) ∙ bytes_well n most 0 t (λ i g. let q : 0 + i ≡ i = omega arith in rw q (h i))

-- there is no other fault than this one
bytes_either : (n most p : ℕ) (t : List ℕ) → bytes_fault n most p t ≢ 0 → table_rule ≡ bytes_fault n most p t
unfolding bytes_fault
bytes_either n most p [] ne = absurd (ne refl)
bytes_either n most p (x ∷ xs) ne =
    go (dec_le x (most_at n most p)) (λ z. ne (or_well (byte_fault n most p x) (bytes_fault n most (suc p) xs) z.0 z.1))
    (bytes_either n most (suc p) xs)
  where
    go : Dec (x ≤ most_at n most p) → ((byte_fault n most p x ≡ 0) × (bytes_fault n most (suc p) xs ≡ 0) → ⊥)
        → (bytes_fault n most (suc p) xs ≢ 0 → table_rule ≡ bytes_fault n most (suc p) xs)
        → table_rule ≡ or_else (byte_fault n most p x) (bytes_fault n most (suc p) xs)
    go (yes l) no_zero r =
        let e : 0 ≡ byte_fault n most p x = byte_well n most p x (most_at n most p) refl l in
        rw (← e) (r (λ z. no_zero (sym e, z)))
    go (no l) no_zero r = rw (← (byte_bad n most p x (most_at n most p) refl (omega arith)))

-- a table against the rule has fault 6
pub table_unruled : (size n most : ℕ) (t : List ℕ) → (length t ≡ size → Ruled n most t → ⊥) → table_rule ≡ table_fault size n most t
table_unruled size n most t not = go (ℕ_discrete (length t) size) (ℕ_discrete (table_fault size n most t) 0)
  where
    go : Dec (length t ≡ size) → Dec (table_fault size n most t ≡ 0) → table_rule ≡ table_fault size n most t
    go (no ne) d = other_length size n most t ne
    go (yes l) (yes z) = absurd (not l (table_passes size n most t z).1)
    go (yes l) (no nz) =
        let e = long_table size n most t l in
        bytes_either n most 0 t (λ z. nz (sym e ∙ z)) ∙ e

-- ---- weights and marks

pub ruled : (n most : ℕ) (t : List ℕ) → ((p : ℕ) → weight t p ≤ most) → weight t 0 ≡ 0 → ((p : ℕ) → 2 ^ n ≤ p → weight t p ≡ 0)
    → Ruled n most t
ruled n most t small none high p = go (ℕ_discrete p 0) (dec_lt p (2 ^ n))
  where
    go : Dec (p ≡ 0) → Dec (p < 2 ^ n) → weight t p ≤ most_at n most p
    go (yes e) d = rw (e, none) (omega arith)
    go (no ne) (yes h) = rw (← most_inside n most p ne h) (small p)
    go (no ne) (no h) = rw (high p (omega arith)) (omega arith)

pub at_most : (n most p : ℕ) → most_at n most p ≤ most
at_most n most p = go (ℕ_discrete p 0) (dec_lt p (2 ^ n))
  where
    go : Dec (p ≡ 0) → Dec (p < 2 ^ n) → most_at n most p ≤ most
    go (yes e) d = omega (arith, most_at_none n most p e)
    go (no ne) (yes h) = omega (arith, most_inside n most p ne h)
    go (no ne) (no h) = omega (arith, most_beyond n most p ne (omega arith))

pub high_none : (n most p : ℕ) → 2 ^ n ≤ p → most_at n most p ≡ 0
high_none n most p h = go (ℕ_discrete p 0)
  where
    go : Dec (p ≡ 0) → most_at n most p ≡ 0
    go (yes e) = sym (most_at_none n most p e)
    go (no ne) = sym (most_beyond n most p ne h)

-- no fault 6, exactly where the weights are sound
pub weights_sound : (size n : ℕ) (w : List ℕ) → (table_fault size n max_weight w ≡ 0) ↔ SoundWeights size n w
weights_sound size n w = (
  λ e. let t = table_passes size n max_weight w e in
      record {
        long = t.0;
        small = λ p. omega (arith, t.1 p, at_most n max_weight p);
        none = omega (arith, t.1 0);
        high = λ p h. omega (arith, t.1 p, high_none n max_weight p h);
      },
  λ s. table_well size n max_weight w s.long (ruled n max_weight w (λ p. omega (arith, s.small p)) s.none s.high),
)

-- and for marks
pub marks_sound : (size n : ℕ) (marks : List ℕ) → (table_fault size n max_mark marks ≡ 0) ↔ SoundMarks size n marks
marks_sound size n marks = (
  λ e. let t = table_passes size n max_mark marks e in
      record {
        long = t.0;
        bits = λ p. omega (arith, t.1 p, at_most n max_mark p);
        none = omega (arith, t.1 0);
        high = λ p h. omega (arith, t.1 p, high_none n max_mark p h);
      },
  λ s. table_well size n max_mark marks s.long (ruled n max_mark marks (λ p. omega (arith, s.bits p)) s.none s.high),
)

-- ---- a call that brings weights or marks

-- no fault: each check has passed
pub call_passes : (n lent table : ℕ) → call_fault n lent table ≡ 0 → (1 ≤ n) × (n ≤ max_wires) × (lent ≡ 0) × (table ≡ 0)
call_passes n lent table e =
    let a = or_pass (wires_fault n) (or_else lent table) e in
    let b = or_pass lent table a.1 in
    let w = wires_pass n a.0 in
    (w.0, w.1, b.0, b.1)

pub passes_call : (n lent table : ℕ) → 1 ≤ n → n ≤ max_wires → lent ≡ 0 → table ≡ 0 → call_fault n lent table ≡ 0
passes_call n lent table a b e f = or_well (wires_fault n) (or_else lent table) (wires_well n a b) (or_well lent table e f)

-- a call that brings weights has no fault exactly where its wire count and its weights have none, and what it lends has none
pub weights_passes : (n lent : ℕ) (w : List ℕ)
    → (call_fault n lent (weights_fault n w) ≡ 0) ↔ (((1 ≤ n) × (n ≤ max_wires)) × (lent ≡ 0) × SoundWeights parities n w)
weights_passes n lent w = (
  λ e. let a = call_passes n lent (weights_fault n w) e in ((a.0, a.1), a.2, (weights_sound parities n w).0 a.3),
  λ s. passes_call n lent (weights_fault n w) s.0.0 s.0.1 s.1 ((weights_sound parities n w).1 s.2),
)

-- a call that brings marks has no fault exactly where its wire count and its marks have none, and what it lends has none
pub marks_passes : (n lent : ℕ) (marks : List ℕ) → (call_fault n lent (marks_fault n marks) ≡ 0) ↔ (Marked n marks × (lent ≡ 0))
marks_passes n lent marks = (
  λ e. let a = call_passes n lent (marks_fault n marks) e in
      (record { some = a.0; few = a.1; sound = (marks_sound parities n marks).0 a.3 }, a.2),
  λ m. passes_call n lent (marks_fault n marks) m.0.some m.0.few m.1 ((marks_sound parities n marks).1 m.0.sound),
)

-- a call's fault f is the one that the definition g gives: it is refused so, or the call is done
module _ (f g : ℕ) (e : f ≡ g) where
  pub call_refusal : f ≢ 0 → Refused f 0 ≡ call_reply g
  call_refusal h = sym (refused f 0 Done h) ∙ ap call_reply e

  pub call_done : f ≡ 0 → Done ≡ call_reply g
  call_done z = rw (← e, z)
