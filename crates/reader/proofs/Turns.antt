-- One turn, and the end, of each loop of the reader, over plain numbers and lists.
use mathlib.Core.List.{List, [], ◌∷◌, map}
use mathlib.Core.Path.{ap, subst, sym, ◌∙◌, ◌≡◌}
use Prim.Native.Nat.{◌%◌, ◌+◌, ◌<◌, ◌^◌, ℕ, ◌≤◌}
use native.Mathlib.Omega.{arith}
use lib.ListN.{drop, drop_of_length-le, get_or, length}
use lib.Pow.{pow_mono}
use lib.Seq.{ext_get_or}
use Rattle.std.proofs.lemmas.List.{at_drop_more}
use Rattle.gf2.proofs.Table.{get_d_tabulate, length-tabulate}
use Rattle.gf2.specs.Table.{add_at, tabulate}
use Rattle.circuit.proofs.GateKinds.{phase_lt, t_is_odd, turn_of}
use Rattle.circuit.proofs.Sound.{gate_keeps}
use Rattle.circuit.specs.Faults.{AllWellFormed}
use Rattle.circuit.specs.Gate.{Cnot, Gate, Kind, Phase, gate, gate_of, is_t, kind_of, t_gates}
use Rattle.circuit.specs.Read.{Reading, first_row, first_rows, join_rows, read, read_from, read_kind, row, with_rows, with_weights}
use Rattle.circuit.specs.Sound.{SoundReading}

-- ---- reading the list, gate by gate

-- these gates are to be read next, after the reading r and t gates that are T or T dagger
pub record ReadTo (N n : ℕ) (all rest : List Gate) (r : Reading) (t : ℕ) : Type 0 where
  pub formed : AllWellFormed n rest
  pub sound : SoundReading N n r
  -- they give what the whole list does
  pub gives : read_from rest r ≡ read N n all
  -- and with the T gates among them, those counted are the list's
  pub counted : t + t_gates rest ≡ t_gates all

-- at place i of a list in threes the next gate is its three bytes
pub next_gate : {N n : ℕ} {all : List Gate} {r : Reading} {t : ℕ} (items : List (List ℕ)) (i : ℕ) → i < length items
    → ReadTo N n all (map gate_of (drop i items)) r t
    → ReadTo N n all (gate_of (get_or items i []) ∷ map gate_of (drop (i + 1) items)) r t
next_gate {N} {n} {all} {r} {t} items i inside =
    subst (λ (gs : List Gate). ReadTo N n all gs r t) (at_drop_more (map gate_of) items i [] inside)

module _ {N n : ℕ} {all : List Gate} {kind a b : ℕ} {rest : List Gate} {r : Reading} {t : ℕ} (fit : n ≤ N)
    (here : ReadTo N n all (gate kind a b ∷ rest) r t) where
  -- it is counted if the phase that it adds is odd
  read_on : (k : Kind) → k ≡ kind_of kind → (next : Reading) {t' : ℕ} → next ≡ read_kind k a b r → t' ≡ t + turn_of k % 2
      → ReadTo N n all rest next t'
  unfolding read_from t_gates
  read_on k is next e counted =
      let odd : turn_of k % 2 ≡ is_t kind = ap (λ (k : Kind). turn_of k % 2) is ∙ sym (t_is_odd kind) in
      record {
        formed = here.formed.1;
        sound = rw (e, is) (gate_keeps N n fit (gate kind a b) r here.formed.0 here.sound);
        gives = rw (e, is) here.gives;
        counted = omega (arith, here.counted, counted, odd);
      }

  pub cnot_on : Cnot ≡ kind_of kind → {rows' : List ℕ} → rows' ≡ join_rows a b r.rows → ReadTo N n all rest (with_rows rows' r) t
  unfolding read_kind
  cnot_on is {rows'} e = read_on Cnot is (with_rows rows' r) (rw e) (omega arith)

  module _ (v : ℕ) (is : Phase v ≡ kind_of kind) where
    -- the parity that its wire holds, the weight there, and its phase
    pub phase_fits : (row r a < 2 ^ N) × (get_or r.weights (row r a) 0 < 8) × (v < 8)
    phase_fits =
        let m : 2 ^ n ≤ 2 ^ N = pow_mono fit in
        (omega (arith, here.sound.rows.within a), here.sound.weights.small (row r a), phase_lt kind v (sym is))

    pub phase_on : {w' : List ℕ} {t' : ℕ} → w' ≡ add_at 8 r.weights (row r a) v → t' ≡ t + v % 2
        → ReadTo N n all rest (with_weights w' r) t'
    unfolding read_kind
    phase_on {w'} e counted = read_on (Phase v) is (with_weights w' r) (rw e) counted

-- the end
pub reads_end : {N n : ℕ} {all : List Gate} {r : Reading} {t : ℕ} (items : List (List ℕ)) (i : ℕ) → length items ≤ i
    → ReadTo N n all (map gate_of (drop i items)) r t → (r ≡ read N n all) × (t ≡ t_gates all)
unfolding read_from t_gates
reads_end {r = r} items i past to =
    let none = ap (map gate_of) (drop_of_length-le items past) in
    (sym (ap (λ (gs : List Gate). read_from gs r) none) ∙ to.gives, omega (arith, to.counted, ap t_gates none))

-- ---- the first rows

pub first_all : (N n i : ℕ) (rows : List ℕ) → length rows ≡ N → N ≤ i → ((k : ℕ) → k < i → get_or rows k 0 ≡ first_row n k)
    → rows ≡ first_rows N n
unfolding first_rows
first_all N n i rows long all each =
    ext_get_or 0 rows (tabulate N (first_row n)) (long ∙ sym (length-tabulate N (first_row n)))
    (λ k h. each k (omega arith) ∙ sym (get_d_tabulate N (first_row n) k (omega arith)))
