-- The fault definitions by cases, and what no fault means. A list is judged Done exactly if all its gates are well formed;
-- a fault that is found is the first of the list, and the only one that is first.
use mathlib.Core.List.{List, [], ◌∷◌}
use mathlib.Core.Logic.{inl, inr, ◌↔◌, ◌≢◌, ◌⊎◌}
use mathlib.Core.Path.{◌≡◌, ap, refl, sym, ◌∙◌}
use Prim.Native.Nat.{◌%◌, ◌+◌, ◌<◌, suc, zero, ℕ, ◌≤◌}
use native.Mathlib.Decide.{dec_le, ℕ_discrete}
use native.Mathlib.Nat.{add-zero}
use native.Mathlib.Omega.{arith}
use lib.ListN.{length}
use borrow.Author.Tests.{eq-eqb, le-leb, lt-leb, ne_eqb}
use Rattle.circuit.specs.Faults.{Accepted, AllWellFormed, FirstFault, Has, KindHas, KindWellFormed, WellFormed}
use Rattle.circuit.specs.Faults.{cnot_fault, first_fault, gate_at, gate_fault, gate_wire, kind_fault, one_wire_fault, refuse, same_wire}
use Rattle.circuit.specs.Faults.{call_reply, lent_fault, list_call_fault, list_fault, list_reply, or_else, short_fault, wires_fault}
use Rattle.circuit.specs.Gate.{Gate, gate, gates_of, kind_of}
use Rattle.circuit.specs.Limits.{gate_bytes, max_list_bytes, max_wires}
use Rattle.circuit.specs.Replies.{after, number_of, place_of}
use Rattle.circuit.specs.Gate.{Kind}
use Rattle.circuit.specs.Gate.{Cnot, Phase, Unknown}
use Rattle.circuit.specs.Replies.{Reply}
use Rattle.circuit.specs.Replies.{Done, Refused}

-- ---- a call

pub wires_pass : (n : ℕ) → wires_fault n ≡ 0 → (1 ≤ n) × (n ≤ max_wires)
wires_pass n e = go (ℕ_discrete n 0) (dec_le n max_wires)
  where
    go : Dec (n ≡ 0) → Dec (n ≤ max_wires) → (1 ≤ n) × (n ≤ max_wires)
    go (yes a) b = absurd (omega (arith, simp (eq-eqb n 0 a) at e))
    go (no a) (no b) = absurd (omega (arith, simp (ne_eqb n 0 a, lt-leb n max_wires (omega arith)) at e))
    go (no a) (yes b) = (omega arith, b)

pub wires_well : (n : ℕ) → 1 ≤ n → n ≤ max_wires → wires_fault n ≡ 0
wires_well n a b = simp (ne_eqb n 0 (omega arith), le-leb n max_wires b)

pub list_pass : (m : ℕ) → list_fault m ≡ 0 → (m % gate_bytes ≡ 0) × (m ≤ max_list_bytes)
list_pass m e = go (ℕ_discrete (m % gate_bytes) 0) (dec_le m max_list_bytes)
  where
    go : Dec (m % gate_bytes ≡ 0) → Dec (m ≤ max_list_bytes) → (m % gate_bytes ≡ 0) × (m ≤ max_list_bytes)
    go (no a) b = absurd (omega (arith, simp (ne_eqb (m % gate_bytes) 0 a) at e))
    go (yes a) (no b) = absurd (omega (arith, simp (eq-eqb (m % gate_bytes) 0 a, lt-leb m max_list_bytes (omega arith)) at e))
    go (yes a) (yes b) = (a, b)

pub list_well : (m : ℕ) → m % gate_bytes ≡ 0 → m ≤ max_list_bytes → list_fault m ≡ 0
list_well m a b = simp (eq-eqb (m % gate_bytes) 0 a, le-leb m max_list_bytes b)

pub lent_pass : (m wanted : ℕ) → lent_fault m wanted ≡ 0 → m ≡ wanted
lent_pass m wanted e = go (ℕ_discrete m wanted)
  where
    go : Dec (m ≡ wanted) → m ≡ wanted
    go (yes a) = a
    go (no a) = absurd (omega (arith, simp (ne_eqb m wanted a) at e))

pub lent_well : (m wanted : ℕ) → m ≡ wanted → lent_fault m wanted ≡ 0
lent_well m wanted a = simp (eq-eqb m wanted a)

pub short_pass : (m wanted : ℕ) → short_fault m wanted ≡ 0 → wanted ≤ m
short_pass m wanted e = go (dec_le wanted m)
  where
    go : Dec (wanted ≤ m) → wanted ≤ m
    go (yes l) = l
    go (no g) = absurd (omega (arith, simp (lt-leb wanted m (omega arith)) at e))

pub short_well : (m wanted : ℕ) → wanted ≤ m → short_fault m wanted ≡ 0
short_well m wanted l = simp (le-leb wanted m l)

-- the first of two faults, or the second where there is no first
pub or_first : (f g : ℕ) → f ≢ 0 → f ≡ or_else f g
or_first zero g h = absurd (h refl)
or_first (suc f) g h = refl

pub or_second : (f g : ℕ) → f ≡ 0 → g ≡ or_else f g
or_second f g e = rw e

pub or_pass : (f g : ℕ) → or_else f g ≡ 0 → (f ≡ 0) × (g ≡ 0)
or_pass zero g e = (refl, e)
or_pass (suc f) g e = absurd (omega arith)

pub or_well : (f g : ℕ) → f ≡ 0 → g ≡ 0 → or_else f g ≡ 0
or_well zero g a b = b
or_well (suc f) g a b = absurd (omega arith)

-- a call that brings a list, without faults 1, 2 and 8
pub list_call_passes : (n bytes lent : ℕ) → list_call_fault n bytes lent ≡ 0
    → (1 ≤ n) × (n ≤ max_wires) × (bytes % gate_bytes ≡ 0) × (bytes ≤ max_list_bytes) × (lent ≡ 0)
list_call_passes n bytes lent e =
    let a = or_pass (wires_fault n) (or_else (list_fault bytes) lent) e in
    let b = or_pass (list_fault bytes) lent a.1 in
    let w = wires_pass n a.0 in
    let l = list_pass bytes b.0 in
    (w.0, w.1, l.0, l.1, b.1)

pub passes_list_call : (n bytes lent : ℕ) → 1 ≤ n → n ≤ max_wires → bytes % gate_bytes ≡ 0 → bytes ≤ max_list_bytes → lent ≡ 0
    → list_call_fault n bytes lent ≡ 0
passes_list_call n bytes lent some few whole short z =
    or_well _ _ (wires_well n some few) (or_well _ _ (list_well bytes whole short) z)

-- ---- a gate

module _ (n a b : ℕ) where
  control_out : n ≤ a → cnot_fault n a b ≡ gate_wire
  control_out h = simp (le-leb n a h)

  target_out : a < n → n ≤ b → cnot_fault n a b ≡ gate_wire
  target_out h k = simp (lt-leb n a h, le-leb n b k)

  wires_same : a < n → b < n → a ≡ b → cnot_fault n a b ≡ same_wire
  wires_same h k e = simp (lt-leb n a h, lt-leb n b k, eq-eqb a b e)

  cnot_well : a < n → b < n → a ≢ b → cnot_fault n a b ≡ 0
  cnot_well h k e = simp (lt-leb n a h, lt-leb n b k, ne_eqb a b e)

  wire_out : n ≤ a → one_wire_fault n a b ≡ gate_wire
  wire_out h = simp (le-leb n a h)

  second_set : a < n → b ≢ 0 → one_wire_fault n a b ≡ gate_wire
  second_set h e = simp (lt-leb n a h, ne_eqb b 0 e)

  phase_well : a < n → b ≡ 0 → one_wire_fault n a b ≡ 0
  phase_well h e = simp (lt-leb n a h, eq-eqb b 0 e)

-- a gate has a fault, and the one computed is the first that it has; or it is well formed
pub data Judged (n : ℕ) (k : Kind) (a b f : ℕ) : Type 0 where
  well : f ≡ 0 → KindWellFormed n k a b → Judged n k a b f
  bad : f ≢ 0 → KindHas n f k a b → ((g : ℕ) → KindHas n g k a b → f ≤ g) → Judged n k a b f

-- the other faults of a gate that has fault 4 have no smaller number
least_cnot : (n a b f : ℕ) → f ≡ gate_wire → (g : ℕ) → KindHas n g Cnot a b → f ≤ g
least_cnot n a b f e g (inl h) = omega (arith, h.0)
least_cnot n a b f e g (inr h) = omega (arith, h.0)

judge_cnot : (n a b : ℕ) → Judged n Cnot a b (cnot_fault n a b)
judge_cnot n a b = go (dec_le n a) (dec_le n b) (ℕ_discrete a b)
  where
    out : (n ≤ a) ⊎ (n ≤ b) → cnot_fault n a b ≡ gate_wire → Judged n Cnot a b (cnot_fault n a b)
    out h e = bad (omega arith) (inl (e, h)) (least_cnot n a b (cnot_fault n a b) e)

    same : cnot_fault n a b ≡ same_wire → a < n → b < n → a ≡ b → Judged n Cnot a b (cnot_fault n a b)
    same e la lb h = bad (omega arith) (inr (e, h)) least
      where
        within : (n ≤ a) ⊎ (n ≤ b) → ⊥
        within (inl g) = omega arith
        within (inr g) = omega arith

        least : (g : ℕ) → KindHas n g Cnot a b → cnot_fault n a b ≤ g
        least g (inl h) = absurd (within h.1)
        least g (inr h) = omega (arith, h.0)

    go : Dec (n ≤ a) → Dec (n ≤ b) → Dec (a ≡ b) → Judged n Cnot a b (cnot_fault n a b)
    go (yes h) k d = out (inl h) (control_out n a b h)
    go (no h) (yes k) d = out (inr k) (target_out n a b (omega arith) k)
    go (no h) (no k) (yes d) = same (wires_same n a b (omega arith) (omega arith) d) (omega arith) (omega arith) d
    go (no h) (no k) (no d) = well (cnot_well n a b (omega arith) (omega arith) d) (omega arith, omega arith, d)

judge_phase : (n v a b : ℕ) → Judged n (Phase v) a b (one_wire_fault n a b)
judge_phase n v a b = go (dec_le n a) (ℕ_discrete b 0)
  where
    out : (n ≤ a) ⊎ (b ≢ 0) → one_wire_fault n a b ≡ gate_wire → Judged n (Phase v) a b (one_wire_fault n a b)
    out h e = bad (omega arith) (e, h) (λ g k. omega (arith, k.0))

    go : Dec (n ≤ a) → Dec (b ≡ 0) → Judged n (Phase v) a b (one_wire_fault n a b)
    go (yes h) d = out (inl h) (wire_out n a b h)
    go (no h) (no d) = out (inr d) (second_set n a b (omega arith) d)
    go (no h) (yes d) = well (phase_well n a b (omega arith) d) (omega arith, d)

judge_kind : (n : ℕ) (k : Kind) (a b : ℕ) → Judged n k a b (kind_fault n k a b)
judge_kind n Cnot a b = judge_cnot n a b
judge_kind n (Phase v) a b = judge_phase n v a b
judge_kind n Unknown a b = bad (omega arith) refl (λ g e. omega arith)

faultless : (n : ℕ) (k : Kind) (a b f : ℕ) → KindWellFormed n k a b → KindHas n f k a b → ⊥
faultless n Cnot a b f w (inl h) = out h.1
  where
    out : (n ≤ a) ⊎ (n ≤ b) → ⊥
    out (inl g) = omega (arith, w.0)
    out (inr g) = omega (arith, w.1)
faultless n Cnot a b f w (inr h) = w.2 h.1
faultless n (Phase v) a b f w h = out h.1
  where
    out : (n ≤ a) ⊎ (b ≢ 0) → ⊥
    out (inl g) = omega (arith, w.0)
    out (inr g) = g w.1
faultless n Unknown a b f w h = w

module _ (n : ℕ) (k : Kind) (a b : ℕ) where
  kind_passes : kind_fault n k a b ≡ 0 → KindWellFormed n k a b
  kind_passes e = go (judge_kind n k a b)
    where
      go : Judged n k a b (kind_fault n k a b) → KindWellFormed n k a b
      go (well e w) = w
      go (bad ne h l) = absurd (ne e)

  kind_well : KindWellFormed n k a b → kind_fault n k a b ≡ 0
  kind_well w = go (judge_kind n k a b)
    where
      go : Judged n k a b (kind_fault n k a b) → kind_fault n k a b ≡ 0
      go (well e w) = e
      go (bad ne h l) = absurd (faultless n k a b (kind_fault n k a b) w h)

  -- the fault that is computed is one that the gate has, and the first
  kind_bad : kind_fault n k a b ≢ 0 → KindHas n (kind_fault n k a b) k a b × ((g : ℕ) → KindHas n g k a b → kind_fault n k a b ≤ g)
  kind_bad ne = go (judge_kind n k a b)
    where
      go : Judged n k a b (kind_fault n k a b)
          → KindHas n (kind_fault n k a b) k a b × ((g : ℕ) → KindHas n g k a b → kind_fault n k a b ≤ g)
      go (well e w) = absurd (ne e)
      go (bad ne h l) = (h, l)

  -- and there is no other first one
  kind_first : (f : ℕ) → KindHas n f k a b → ((g : ℕ) → KindHas n g k a b → f ≤ g) → kind_fault n k a b ≡ f
  kind_first f h l = go (judge_kind n k a b)
    where
      go : Judged n k a b (kind_fault n k a b) → kind_fault n k a b ≡ f
      go (well e w) = absurd (faultless n k a b f w h)
      go (bad ne h' l') = omega (arith, l (kind_fault n k a b) h', l' f h)

pub gate_passes : (n : ℕ) (g : Gate) → gate_fault n g ≡ 0 → WellFormed n g
unfolding gate_fault
gate_passes n (gate kind a b) e = kind_passes n (kind_of kind) a b e

pub gate_well : (n : ℕ) (g : Gate) → WellFormed n g → gate_fault n g ≡ 0
unfolding gate_fault
gate_well n (gate kind a b) w = kind_well n (kind_of kind) a b w

gate_bad : (n : ℕ) (g : Gate) → gate_fault n g ≢ 0 → Has n (gate_fault n g) g × ((f : ℕ) → Has n f g → gate_fault n g ≤ f)
unfolding gate_fault
gate_bad n (gate kind a b) ne = kind_bad n (kind_of kind) a b ne

gate_first : (n : ℕ) (g : Gate) (f : ℕ) → Has n f g → ((h : ℕ) → Has n h g → f ≤ h) → gate_fault n g ≡ f
unfolding gate_fault
gate_first n (gate kind a b) f h l = kind_first n (kind_of kind) a b f h l

-- the fault of a gate, by what its kind byte says
pub by_kind : (n kind a b : ℕ) (k : Kind) (f : ℕ) → k ≡ kind_of kind → f ≡ kind_fault n k a b → f ≡ gate_fault n (gate kind a b)
unfolding gate_fault
by_kind n kind a b k f e h = h ∙ ap (λ (k : Kind). kind_fault n k a b) e

some_fault : (n : ℕ) (k : Kind) (a b f : ℕ) → KindHas n f k a b → f ≢ 0
some_fault n Cnot a b f (inl h) = omega (arith, h.0)
some_fault n Cnot a b f (inr h) = omega (arith, h.0)
some_fault n (Phase v) a b f h = omega (arith, h.0)
some_fault n Unknown a b f h = omega arith

has_some : (n f : ℕ) (g : Gate) → Has n f g → f ≢ 0
has_some n f (gate kind a b) h = some_fault n (kind_of kind) a b f h

-- ---- a list

pub refused_not_done : (number place : ℕ) → Refused number place ≡ Done → ⊥
refused_not_done number place e = let z : ◌≡◌ {A = ℕ} 0 1 = cc in omega arith

pub refuse_done : (f i : ℕ) (rest : Reply) → refuse f i rest ≡ Done → (f ≡ 0) × (rest ≡ Done)
refuse_done zero i rest e = (refl, e)
refuse_done (suc f) i rest e = absurd (refused_not_done (suc f) i e)

-- a call is accepted exactly where it has no fault
pub call_accepts : {P : Type 0} (f : ℕ) → (f ≡ 0) ↔ P → (call_reply f ≡ Done) ↔ P
call_accepts f i = (λ e. i.0 (refuse_done f 0 Done e).0, λ p. rw (i.1 p))

pub refused : (f i : ℕ) (rest : Reply) → f ≢ 0 → refuse f i rest ≡ Refused f i
refused zero i rest h = absurd (h refl)
refused (suc f) i rest h = refl

-- a refusal's number is never 0: that of a fault of the call, or of what comes after it
pub refusal_number : (f i : ℕ) (rest : Reply) {number place : ℕ} → (rest ≡ Refused number place → number ≢ 0)
    → refuse f i rest ≡ Refused number place → number ≢ 0
refusal_number zero i rest h e = h e
refusal_number (suc f) i rest {number} h e = let s : suc f ≡ number = cc in omega arith

pub done_number : {number place : ℕ} → Done ≡ Refused number place → number ≢ 0
done_number {number} {place} e = absurd (refused_not_done number place (sym e))

pub done_formed : (n i : ℕ) (gs : List Gate) → first_fault n i gs ≡ Done → AllWellFormed n gs
unfolding first_fault
done_formed n i [] e = tt
done_formed n i (g ∷ gs) e =
    let t = refuse_done (gate_fault n g) i (first_fault n (suc i) gs) e in
    (gate_passes n g t.0, done_formed n (suc i) gs t.1)

pub formed_done : (n i : ℕ) (gs : List Gate) → AllWellFormed n gs → first_fault n i gs ≡ Done
unfolding first_fault
formed_done n i [] f = refl
formed_done n i (g ∷ gs) f = rw (gate_well n g f.0) (formed_done n (suc i) gs f.1)

-- a list with a first fault is refused there
pub first_refused : (n i : ℕ) (gs : List Gate) (number k : ℕ) → FirstFault n gs number k → first_fault n i gs ≡ Refused number (i + k)
unfolding first_fault
first_refused n i [] number k f = absurd (omega (arith, f.inside))
first_refused n i (g ∷ gs) number zero f =
    let e : gate_fault n g ≡ number = gate_first n g number f.has f.first in
    rw (e, add-zero i) (refused number i (first_fault n (suc i) gs) (has_some n number g f.has))
first_refused n i (g ∷ gs) number (suc k) f =
    let e : i + suc k ≡ suc i + k = omega arith in
    rw (gate_well n g (f.before 0 (omega arith)), e)
    (first_refused n (suc i) gs number k
    (record { inside = omega (arith, f.inside); before = λ j l. f.before (suc j) (omega arith); has = f.has; first = f.first }))

-- where a list is refused, that is its first fault
pub refused_first : (n i : ℕ) (gs : List Gate) (number place : ℕ) → first_fault n i gs ≡ Refused number place
    → (k : ℕ) × (place ≡ i + k) × FirstFault n gs number k
unfolding first_fault
refused_first n i [] number place e = absurd (refused_not_done number place (sym e))
refused_first n i (g ∷ gs) number place e = go (ℕ_discrete (gate_fault n g) 0) (λ r. refused_first n (suc i) gs number place r)
  where
    go : Dec (gate_fault n g ≡ 0)
        → (first_fault n (suc i) gs ≡ Refused number place → (k : ℕ) × (place ≡ suc i + k) × FirstFault n gs number k)
        → (k : ℕ) × (place ≡ i + k) × FirstFault n (g ∷ gs) number k
    go (yes z) r =
        let t = r (rw z at e) in
        let f : FirstFault n gs number t.0 = t.2 in (
          suc t.0,
          omega (arith, t.1),
          record { inside = omega (arith, f.inside); before = λ j l. before f j l; has = f.has; first = f.first },
        )
      where
        before : {k : ℕ} → FirstFault n gs number k → (j : ℕ) → j < suc k → WellFormed n (gate_at (g ∷ gs) j)
        before f zero l = gate_passes n g z
        before f (suc j) l = f.before j (omega arith)
    go (no z) r =
        let h : Refused (gate_fault n g) i ≡ Refused number place = sym (refused (gate_fault n g) i (first_fault n (suc i) gs) z) ∙ e in
        let number_is : gate_fault n g ≡ number = cc in
        let place_is : i ≡ place = cc in
        let b = gate_bad n g z in (
          0,
          omega arith,
          record {
            inside = omega arith;
            before = λ j l. absurd (omega arith);
            has = rw number_is at b.0;
            first = rw number_is at b.1;
          },
        )

pub first_number : (n : ℕ) (gs : List Gate) {number place : ℕ} → first_fault n 0 gs ≡ Refused number place → number ≢ 0
first_number n gs {number} {place} e =
    let t = refused_first n 0 gs number place e in
    has_some n number (gate_at gs t.0) t.2.has

-- ---- a call that brings a list is done exactly if the list is accepted and what it lends has its length

pub list_done : (n : ℕ) (bytes : List ℕ) (lent : ℕ) → list_reply n bytes lent ≡ Done → Accepted n bytes × (lent ≡ 0)
list_done n bytes lent e =
    let t = refuse_done (list_call_fault n (length bytes) lent) 0 (first_fault n 0 (gates_of bytes)) e in
    let a = list_call_passes n (length bytes) lent t.0 in
    (record { some = a.0; few = a.1; whole = a.2; short = a.3; formed = done_formed n 0 (gates_of bytes) t.1 }, a.4)

pub done_list : (n : ℕ) (bytes : List ℕ) (lent : ℕ) → Accepted n bytes → lent ≡ 0 → list_reply n bytes lent ≡ Done
done_list n bytes lent a z =
    rw (passes_list_call n (length bytes) lent a.some a.few a.whole a.short z) (formed_done n 0 (gates_of bytes) a.formed)

-- ---- number 0 says that a call is done

pub list_number : (n : ℕ) (bytes : List ℕ) (lent : ℕ) {number place : ℕ} → list_reply n bytes lent ≡ Refused number place → number ≢ 0
list_number n bytes lent {number} {place} =
    refusal_number (list_call_fault n (length bytes) lent) 0 (first_fault n 0 (gates_of bytes)) (first_number n (gates_of bytes))

pub call_number : (f : ℕ) {number place : ℕ} → call_reply f ≡ Refused number place → number ≢ 0
call_number f = refusal_number f 0 Done done_number

-- the reply to a call has the number of its fault, at place 0
pub call_told : (f : ℕ) → (number_of (call_reply f) ≡ f) × (place_of (call_reply f) ≡ 0)
call_told zero = (refl, refl)
call_told (suc f) = (refl, refl)

pub zero_done : (v : Reply) → ((number place : ℕ) → v ≡ Refused number place → number ≢ 0) → number_of v ≡ 0 → v ≡ Done
zero_done Done h e = refl
zero_done (Refused number place) h e = absurd (h number place refl e)

-- and any other leaves a lent buffer as it was
pub after_refusal : (number : ℕ) (written was : List ℕ) → number ≢ 0 → was ≡ after number written was
after_refusal zero written was h = absurd (h refl)
after_refusal (suc number) written was h = refl
