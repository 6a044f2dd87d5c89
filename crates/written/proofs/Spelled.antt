-- The spelling of a weight: phase gates alone, at most two, that add the weight at the parity their wire holds. One of them is T or T
-- dagger where the weight is odd, none where it is even; none is Z. Each is a test, computed at each weight; but for the match of
-- `synth::spelling::kinds_for` nothing else looks at a spelling.
use mathlib.Core.Bool.{Bool, ◌&&◌, false, true}
use mathlib.Core.List.{List, [], map, ◌∷◌}
use mathlib.Core.Logic.{◌≢◌}
use mathlib.Core.Path.{ap, refl, sym, ◌∙◌, ◌≡◌}
use Prim.Native.Nat.{◌%◌, ◌+◌, ◌<◌, suc, ℕ, ◌≤◌}
use native.Mathlib.Nat.{add-zero}
use native.Mathlib.Omega.{arith}
use lib.Dec.{T as Holds, eqb, eqb→eq, leb, leb→le}
use lib.ListN.{get_or, length, length-map, length-set, set}
use lib.Seq.{get_or-set_same, set-set}
use borrow.Author.Tests.{eq-eqb, ne_eqb}
use Rattle.circuit.proofs.GateKinds.{turn_of}
use Rattle.circuit.specs.Faults.{AllWellFormed}
use Rattle.circuit.specs.Gate.{T, T_DAGGER, Z, gate, kind_of}
use Rattle.circuit.specs.Read.{Reading, read_from, read_kind, row, with_weights}
use Rattle.gf2.proofs.Brute.{T-both}
use Rattle.gf2.proofs.Every.{every-at}
use Rattle.gf2.specs.Every.{every}
use Rattle.gf2.specs.Sum.{delta}
use Rattle.gf2.specs.Table.{add_at}
use Rattle.written.specs.Spelling.{kinds_at, occurs, spell, spelling}
use Rattle.circuit.specs.Gate.{Kind}
use Rattle.circuit.specs.Gate.{Cnot, Phase, Unknown}

-- ---- the rule of a weight's spelling

-- all of these are kinds of phase gates
abbrev Phases : List ℕ → Type 0
Phases [] = Unit {0}
Phases (k ∷ ks) = ((v : ℕ) × (kind_of k ≡ Phase v)) × Phases ks

-- what they add together
unfoldable pub turns : List ℕ → ℕ
turns [] = 0
turns (k ∷ ks) = turn_of (kind_of k) + turns ks

pub record Right (v : ℕ) : Type 0 where
  pub phases : Phases (spelling v)
  pub few : length (spelling v) ≤ 2
  pub adds : turns (spelling v) % 8 ≡ v
  pub t_if_odd : occurs T (spelling v) + occurs T_DAGGER (spelling v) ≡ v % 2
  pub no_z : occurs Z (spelling v) ≡ 0

-- ---- the same as tests

abbrev is_phase : Kind → Bool
is_phase (Phase v) = true
is_phase Cnot = false
is_phase Unknown = false

abbrev are_phases : List ℕ → Bool
are_phases [] = true
are_phases (k ∷ ks) = is_phase (kind_of k) && are_phases ks

phases_told : (ks : List ℕ) → Holds (are_phases ks) → Phases ks
phases_told [] t = tt
phases_told (k ∷ ks) t = let h = (T-both (is_phase (kind_of k)) (are_phases ks)).0 t in (told (kind_of k) h.0, phases_told ks h.1)
  where
    told : (x : Kind) → Holds (is_phase x) → (v : ℕ) × (x ≡ Phase v)
    told (Phase v) t = (v, refl)
    told Cnot t = absurd t
    told Unknown t = absurd t

-- a test of every weight
abbrev Each : (ℕ → Bool) → Type 0
Each test = Holds (every 8 test)

phases_each : Each (λ v. are_phases (spelling v))
unfolding every spelling kind_of
phases_each = tt

few_each : Each (λ v. leb (length (spelling v)) 2)
unfolding every spelling
few_each = tt

adds_each : Each (λ v. eqb (turns (spelling v) % 8) v)
unfolding every spelling turns kind_of
adds_each = tt

t_each : Each (λ v. eqb (occurs T (spelling v) + occurs T_DAGGER (spelling v)) (v % 2))
unfolding every spelling occurs delta
t_each = tt

no_z_each : Each (λ v. eqb (occurs Z (spelling v)) 0)
unfolding every spelling occurs delta
no_z_each = tt

pub right : (v : ℕ) → v < 8 → Right v
right v l =
    record {
      phases = phases_told (spelling v) (every-at 8 _ phases_each v l);
      few = leb→le _ _ (every-at 8 _ few_each v l);
      adds = eqb→eq _ _ (every-at 8 _ adds_each v l);
      t_if_odd = eqb→eq _ _ (every-at 8 _ t_each v l);
      no_z = eqb→eq _ _ (every-at 8 _ no_z_each v l);
    }

-- weight 0 takes no gate
pub spelling-none : spelling 0 ≡ []
unfolding spelling
spelling-none = refl

-- of no kind
pub occurs-none : (kind v : ℕ) → v ≡ 0 → occurs kind (spelling v) ≡ 0
unfolding occurs
occurs-none kind v e = ap (λ (x : ℕ). occurs kind (spelling x)) e ∙ ap (occurs kind) spelling-none

-- ---- reading

add_at-twice : (w : List ℕ) (q x y : ℕ) → q < length w → add_at 8 (add_at 8 w q x) q y ≡ add_at 8 w q (x + y)
add_at-twice w q x y h =
    let u : ℕ = (get_or w q 0 + x) % 8 in
    set-set w q u ((get_or (set w q u) q 0 + y) % 8)
    ∙ ap (λ (c : ℕ). set w q ((c + y) % 8)) (get_or-set_same w q u 0 h) ∙ ap (set w q) (omega arith)

-- phase gates on one wire add together at the parity that it holds
read_kinds : (t k : ℕ) (ks : List ℕ) → Phases (k ∷ ks) → (r : Reading) → row r t < length r.weights
    → read_from (map (λ kind. gate kind t 0) (k ∷ ks)) r ≡ with_weights (add_at 8 r.weights (row r t) (turns (k ∷ ks))) r
unfolding read_from read_kind turns
read_kinds t k [] f r h = rw (f.0.1, add-zero f.0.0)
read_kinds t k (j ∷ ks) f r h =
    let v : ℕ = f.0.0 in
    let w : List ℕ = add_at 8 r.weights (row r t) v in
    ap (λ (x : Kind). read_from (map (λ kind. gate kind t 0) (j ∷ ks)) (read_kind x t 0 r)) f.0.1
    ∙ read_kinds t j ks f.1 (with_weights w r) (rw (length-set r.weights (row r t) ((get_or r.weights (row r t) 0 + v) % 8)) h)
    ∙ ap (λ (x : List ℕ). with_weights x r) (add_at-twice r.weights (row r t) v (turns (j ∷ ks)) h)
    ∙ ap (λ (x : Kind). with_weights (add_at 8 r.weights (row r t) (turn_of x + turns (j ∷ ks))) r) (sym f.0.1)

-- spelled gates on wire t add v at the parity that t holds
pub read_spell : (v t : ℕ) (r : Reading) → v < 7 → row r t < length r.weights
    → read_from (spell (suc v) t) r ≡ with_weights (add_at 8 r.weights (row r t) (suc v)) r
unfolding spell turns
read_spell v t r l h = go (spelling (suc v)) (right (suc v) (omega arith)).phases (right (suc v) (omega arith)).adds
  where
    go : (ks : List ℕ) → Phases ks → turns ks % 8 ≡ suc v
        → read_from (map (λ kind. gate kind t 0) ks) r ≡ with_weights (add_at 8 r.weights (row r t) (suc v)) r
    go [] f e = absurd (omega arith)
    go (k ∷ ks) f e =
        read_kinds t k ks f r h
        ∙ ap (λ (x : ℕ). with_weights (set r.weights (row r t) x) r) (same (get_or r.weights (row r t) 0) (turns (k ∷ ks)) e)
      where
        same : (a x : ℕ) → x % 8 ≡ suc v → (a + x) % 8 ≡ (a + suc v) % 8
        same a x e = omega arith

-- ---- how many, and well formed

pub length-spell : (v t : ℕ) → v < 8 → length (spell v t) ≤ 2
unfolding spell
length-spell v t l = rw (length-map (spelling v) (λ kind. gate kind t 0)) (right v l).few

formed_kinds : (n t : ℕ) → t < n → (ks : List ℕ) → Phases ks → AllWellFormed n (map (λ kind. gate kind t 0) ks)
formed_kinds n t h [] f = tt
formed_kinds n t h (k ∷ ks) f = (rw f.0.1 (h, refl), formed_kinds n t h ks f.1)

pub formed_spell : (n v t : ℕ) → v < 8 → t < n → AllWellFormed n (spell v t)
unfolding spell
formed_spell n v t l h = formed_kinds n t h (spelling v) (right v l).phases

-- ---- the kinds at a parity

-- all of them, or none
abbrev kept : Bool → List ℕ → List ℕ
kept true ks = ks
kept false ks = []

kinds_on : (p t : ℕ) (holds : Bool) (ks : List ℕ) → Phases ks → (r : Reading) → eqb (row r t) p ≡ holds
    → kinds_at p (map (λ kind. gate kind t 0) ks) r ≡ kept holds ks
unfolding kinds_at read_kind
kinds_on p t true [] f r e = refl
kinds_on p t false [] f r e = refl
kinds_on p t true (k ∷ ks) f r e =
    rw (f.0.1, e) (ap (λ (l : List ℕ). k ∷ l) (kinds_on p t true ks f.1 (with_weights (add_at 8 r.weights (row r t) f.0.0) r) e))
kinds_on p t false (k ∷ ks) f r e =
    rw (f.0.1, e) (kinds_on p t false ks f.1 (with_weights (add_at 8 r.weights (row r t) f.0.0) r) e)

module _ (p v t : ℕ) (small : v < 8) (r : Reading) where
  -- the spelling, at the parity that the wire holds
  pub kinds_here : row r t ≡ p → kinds_at p (spell v t) r ≡ spelling v
  unfolding spell
  kinds_here e = kinds_on p t true (spelling v) (right v small).phases r (eq-eqb (row r t) p e)

  -- nothing, at another
  pub kinds_away : row r t ≢ p → kinds_at p (spell v t) r ≡ []
  unfolding spell
  kinds_away e = kinds_on p t false (spelling v) (right v small).phases r (ne_eqb (row r t) p e)
