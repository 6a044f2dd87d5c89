-- The odd set: a T or T dagger put anywhere in a list moves its size by exactly one, no other gate moves it.
-- So a list has at least as many T and T dagger gates as its odd set has members. Over n and N.
use mathlib.Core.List.{◌++◌, List, [], ◌∷◌}
use mathlib.Core.Logic.{inl, inr, ◌⊎◌}
use mathlib.Core.Path.{ap, refl, sym, ◌∙◌, ◌≡◌}
use Prim.Native.Nat.{◌%◌, ◌+◌, ◌<◌, ◌^◌, suc, zero, ℕ, ◌≤◌}
use native.Mathlib.Omega.{arith}
use lib.ListN.{get_or-map, get_or, length, length-map, length-set, set}
use lib.Pow.{pow_mono}
use lib.Seq.{get_or-set_other, get_or-set_same}
use Rattle.gf2.proofs.Bit.{bit-values}
use Rattle.gf2.proofs.Sum.{sum-ext, sum-update, sum-zero}
use Rattle.gf2.proofs.Table.{add_at-comm}
use Rattle.gf2.specs.Sum.{delta, sum}
use Rattle.gf2.specs.Table.{add_at}
use Rattle.circuit.proofs.GateKinds.{t_is_odd, turn_of}
use Rattle.circuit.proofs.Sound.{gate_keeps, no_weight, read_append, read_sound, reading_keeps, start_sound}
use Rattle.circuit.specs.Faults.{AllWellFormed, KindWellFormed, WellFormed}
use Rattle.circuit.specs.Gate.{Gate, gate, is_t, kind_of, t_gates}
use Rattle.circuit.specs.OddSet.{member_count, odd_set}
use Rattle.circuit.specs.Read.{Reading, no_weights, read, read_from, read_gate, read_kind, row, start, with_weights}
use Rattle.circuit.specs.Sound.{SoundReading}
use Rattle.circuit.specs.Gate.{Kind}
use Rattle.circuit.specs.Gate.{Cnot, Phase, Unknown}

-- the number of odd weights
odds : List ℕ → ℕ
odds w = sum (length w) (λ p. get_or w p 0 % 2)

pub odd_mark : (w : List ℕ) (p : ℕ) → get_or (odd_set w) p 0 ≡ get_or w p 0 % 2
unfolding odd_set
odd_mark w p = get_or-map (λ x. x % 2) w p 0

pub length-odd : (w : List ℕ) → length (odd_set w) ≡ length w
unfolding odd_set
length-odd w = length-map w (λ x. x % 2)

-- no mark above 1: then the members are the sum of the marks
bit-member : (x : ℕ) → x < 2 → delta 1 x ≡ x
unfolding delta
bit-member zero h = refl
bit-member (suc zero) h = refl
bit-member (suc (suc x)) h = absurd (omega arith)

pub members_sum : (marks : List ℕ) → ((p : ℕ) → get_or marks p 0 < 2) → member_count marks ≡ sum (length marks) (λ p. get_or marks p 0)
unfolding member_count
members_sum marks bits =
    sum-ext (length marks) (λ p. delta 1 (get_or marks p 0)) (λ p. get_or marks p 0) (λ p l. bit-member (get_or marks p 0) (bits p))

pub odd_bits : (w : List ℕ) (p : ℕ) → get_or (odd_set w) p 0 < 2
odd_bits w p = omega (arith, odd_mark w p)

members_odds : (w : List ℕ) → member_count (odd_set w) ≡ odds w
unfolding odds
members_odds w =
    members_sum (odd_set w) (odd_bits w) ∙ ap (λ (k : ℕ). sum k (λ p. get_or (odd_set w) p 0)) (length-odd w)
    ∙ sum-ext (length w) (λ p. get_or (odd_set w) p 0) (λ p. get_or w p 0 % 2) (λ p l. odd_mark w p)

moved : (s s' x v : ℕ) → s' + x % 2 ≡ s + (x + v) % 8 % 2 → v % 2 ≡ 1 → (s' ≡ s + 1) ⊎ (s ≡ s' + 1)
moved s s' x v e h = go (bit-values (x % 2) (omega arith))
  where
    go : (x % 2 ≡ 0) ⊎ (x % 2 ≡ 1) → (s' ≡ s + 1) ⊎ (s ≡ s' + 1)
    go (inl z) = inl (omega arith)
    go (inr z) = inr (omega arith)

odds_change : (w : List ℕ) (q v : ℕ) → q < length w → odds (add_at 8 w q v) + get_or w q 0 % 2 ≡ odds w + (get_or w q 0 + v) % 8 % 2
unfolding odds
odds_change w q v h =
    let u : ℕ = (get_or w q 0 + v) % 8 in
    ap (λ (k : ℕ). sum k (λ p. get_or (set w q u) p 0 % 2) + get_or w q 0 % 2) (length-set w q u)
    ∙ sum-update (length w) q (λ p. get_or w p 0 % 2) (λ p. get_or (set w q u) p 0 % 2) h (λ p l ne. rw (get_or-set_other w q p u 0 ne))
    ∙ ap (λ (y : ℕ). sum (length w) (λ p. get_or w p 0 % 2) + y % 2) (get_or-set_same w q u 0 h)

-- an odd phase added to one weight moves the size of the odd set by exactly one
pub odd_moves : (w : List ℕ) (q v : ℕ) → q < length w → v % 2 ≡ 1
    → (member_count (odd_set (add_at 8 w q v)) ≡ member_count (odd_set w) + 1)
    ⊎ (member_count (odd_set w) ≡ member_count (odd_set (add_at 8 w q v)) + 1)
odd_moves w q v h o =
    rw (members_odds w, members_odds (add_at 8 w q v)) (moved (odds w) (odds (add_at 8 w q v)) (get_or w q 0) v (odds_change w q v h) o)

-- an even one leaves it
pub even_stays : (w : List ℕ) (q v : ℕ) → q < length w → v % 2 ≡ 0 → member_count (odd_set (add_at 8 w q v)) ≡ member_count (odd_set w)
even_stays w q v h o =
    rw (members_odds w, members_odds (add_at 8 w q v)) (stayed (odds w) (odds (add_at 8 w q v)) (get_or w q 0) v (odds_change w q v h) o)
  where
    stayed : (s s' x v : ℕ) → s' + x % 2 ≡ s + (x + v) % 8 % 2 → v % 2 ≡ 0 → s' ≡ s
    stayed s s' x v e h = omega arith

lands : (N n : ℕ) → n ≤ N → (r : Reading) → SoundReading N n r → (a : ℕ) → row r a < length r.weights
lands N n fit r o a = let m : 2 ^ n ≤ 2 ^ N = pow_mono fit in omega (arith, o.weights.long, o.rows.within a)

-- ---- a phase added before the rest of a list

-- the reading with v added at q
abbrev pub added : ℕ → ℕ → Reading → Reading
added q v r = with_weights (add_at 8 r.weights q v) r

kind_added : (q v : ℕ) (k : Kind) (a b : ℕ) (r : Reading) → read_kind k a b (added q v r) ≡ added q v (read_kind k a b r)
unfolding read_kind
kind_added q v Cnot a b r = refl
kind_added q v (Phase u) a b r = ap (λ (w : List ℕ). with_weights w r) (add_at-comm 8 r.weights q v (row r a) u)
kind_added q v Unknown a b r = refl

reading_added : (q v : ℕ) (gs : List Gate) (r : Reading) → read_from gs (added q v r) ≡ added q v (read_from gs r)
unfolding read_from
reading_added q v [] r = refl
reading_added q v (gate kind a b ∷ gs) r =
    ap (read_from gs) (kind_added q v (kind_of kind) a b r) ∙ reading_added q v gs (read_kind (kind_of kind) a b r)

-- ---- one gate put anywhere

module _ (N n : ℕ) (fit : n ≤ N) (xs ys : List Gate) (kind a b : ℕ) (fx : AllWellFormed n xs) (fy : AllWellFormed n ys)
    (f : WellFormed n (gate kind a b)) where
  -- the list without the gate, and with it
  without : Reading
  without = read_from ys (read N n xs)

  inside : row (read N n xs) a < length without.weights
  unfolding without
  inside =
      let s : SoundReading N n (read N n xs) = read_sound N n fit xs fx in
      rw (reading_keeps N n fit ys (read N n xs) fy s).weights.long (omega (arith, lands N n fit (read N n xs) s a, s.weights.long))

  -- the gate's phase is added at the parity that its wire holds after xs
  put : turn_of (kind_of kind) % 2 ≡ 1
      → (read_from ys (read_gate (gate kind a b) (read N n xs))).weights
      ≡ add_at 8 without.weights (row (read N n xs) a) (turn_of (kind_of kind))
  unfolding without read_kind
  put = go (kind_of kind)
    where
      go : (k : Kind) → turn_of k % 2 ≡ 1
          → (read_from ys (read_kind k a b (read N n xs))).weights
          ≡ add_at 8 (read_from ys (read N n xs)).weights (row (read N n xs) a) (turn_of k)
      go Cnot o = absurd (omega arith)
      go (Phase v) o = ap (λ (r : Reading). r.weights) (reading_added (row (read N n xs) a) v ys (read N n xs))
      go Unknown o = absurd (omega arith)

  -- one T or T dagger put anywhere moves the size of the odd set by exactly one
  pub t_moves_one : is_t kind ≡ 1
      → (member_count (odd_set (read N n (xs ++ gate kind a b ∷ ys)).weights) ≡ member_count (odd_set (read N n (xs ++ ys)).weights) + 1)
      ⊎ (member_count (odd_set (read N n (xs ++ ys)).weights) ≡ member_count (odd_set (read N n (xs ++ gate kind a b ∷ ys)).weights) + 1)
  unfolding read_from without
  t_moves_one t =
      let o : turn_of (kind_of kind) % 2 ≡ 1 = sym (t_is_odd kind) ∙ t in
      rw (read_append xs (gate kind a b ∷ ys) (start N n), read_append xs ys (start N n), put o)
      (odd_moves without.weights (row (read N n xs) a) (turn_of (kind_of kind)) inside o)

-- ---- along the list

kind_odds : (N n : ℕ) → n ≤ N → (k : Kind) (a b : ℕ) (r : Reading) → KindWellFormed n k a b → SoundReading N n r
    → member_count (odd_set (read_kind k a b r).weights) ≤ turn_of k % 2 + member_count (odd_set r.weights)
unfolding read_kind
kind_odds N n fit Cnot a b r f o = omega arith
kind_odds N n fit (Phase v) a b r f o = go (bit-values (v % 2) (omega arith))
  where
    up : (m m' : ℕ) → v % 2 ≡ 1 → (m' ≡ m + 1) ⊎ (m ≡ m' + 1) → m' ≤ v % 2 + m
    up m m' e (inl h) = omega arith
    up m m' e (inr h) = omega arith

    go : (v % 2 ≡ 0) ⊎ (v % 2 ≡ 1) → member_count (odd_set (add_at 8 r.weights (row r a) v)) ≤ v % 2 + member_count (odd_set r.weights)
    go (inl e) = omega (arith, even_stays r.weights (row r a) v (lands N n fit r o a) e)
    go (inr e) =
        up (member_count (odd_set r.weights)) (member_count (odd_set (add_at 8 r.weights (row r a) v))) e
        (odd_moves r.weights (row r a) v (lands N n fit r o a) e)
kind_odds N n fit Unknown a b r f o = absurd f

reading_odds : (N n : ℕ) → n ≤ N → (gs : List Gate) (r : Reading) → AllWellFormed n gs → SoundReading N n r
    → member_count (odd_set (read_from gs r).weights) ≤ t_gates gs + member_count (odd_set r.weights)
unfolding read_from t_gates
reading_odds N n fit [] r f o = omega arith
reading_odds N n fit (gate kind a b ∷ gs) r f o =
    omega (
      arith,
      reading_odds N n fit gs (read_gate (gate kind a b) r) f.1 (gate_keeps N n fit (gate kind a b) r f.0 o),
      kind_odds N n fit (kind_of kind) a b r f.0 o,
      t_is_odd kind,
    )

members_none : (N : ℕ) → member_count (odd_set (no_weights N)) ≡ 0
unfolding odds
members_none N =
    members_odds (no_weights N)
    ∙ sum-ext (length (no_weights N)) (λ p. get_or (no_weights N) p 0 % 2) (λ p. 0) (λ p l. rw (no_weight N p))
    ∙ sum-zero (length (no_weights N))

-- the odd set has at most as many members as the list has T and T dagger gates
pub odd_set_at_most_t : (N n : ℕ) → n ≤ N → (gs : List Gate) → AllWellFormed n gs
    → member_count (odd_set (read N n gs).weights) ≤ t_gates gs
odd_set_at_most_t N n fit gs f = omega (arith, reading_odds N n fit gs (start N n) f (start_sound N n fit), members_none N)
