-- The kind of a gate, by its byte: what the code's match tells, and that T and T dagger are the gates that add an odd phase. What holds of
-- every kind is one test, computed at each up to the last.
use mathlib.Core.Logic.{◌≢◌}
use mathlib.Core.Path.{◌≡◌, subst}
use Prim.Native.Nat.{◌%◌, ◌<◌, ◌≤◌, suc, ℕ}
use native.Mathlib.Decide.{dec_lt}
use native.Mathlib.Omega.{arith}
use lib.Dec.{T as Holds, eqb, eqb→eq, ltb, ltb→lt}
use borrow.Author.Tests.{ne_eqb}
use Rattle.gf2.proofs.Every.{every-at}
use Rattle.gf2.proofs.Sum.{delta-other}
use Rattle.gf2.specs.Every.{every}
use Rattle.gf2.specs.Sum.{delta}
use Rattle.circuit.specs.Faults.{KindWellFormed, WellFormed}
use Rattle.circuit.specs.Gate.{CNOT, S, S_DAGGER, T, T_DAGGER, Z, gate, is_t, kind_of, last_kind}
use Rattle.circuit.specs.Gate.{Kind}
use Rattle.circuit.specs.Gate.{Cnot, Phase, Unknown}

-- a byte that is none of the kinds
pub no_kind : (kind : ℕ) → kind ≢ CNOT → kind ≢ T → kind ≢ S → kind ≢ Z → kind ≢ S_DAGGER → kind ≢ T_DAGGER → kind_of kind ≡ Unknown
unfolding kind_of
no_kind kind a b c d e f =
    simp (
      ne_eqb kind CNOT a,
      ne_eqb kind T b,
      ne_eqb kind S c,
      ne_eqb kind Z d,
      ne_eqb kind S_DAGGER e,
      ne_eqb kind T_DAGGER f,
    )

-- past the last kind there is none
pub kind_above : (kind : ℕ) → last_kind < kind → kind_of kind ≡ Unknown
kind_above kind h = no_kind kind (omega arith) (omega arith) (omega arith) (omega arith) (omega arith) (omega arith)

-- so a gate without a fault has one of the kinds
pub known_kind : (n kind a b : ℕ) → WellFormed n (gate kind a b) → kind ≤ last_kind
known_kind n kind a b w = go (dec_lt last_kind kind)
  where
    go : Dec (last_kind < kind) → kind ≤ last_kind
    go (yes h) = absurd (subst (λ (k : Kind). KindWellFormed n k a b) (kind_above kind h) w)
    go (no h) = omega arith

-- what a gate adds to the phase if bit a is set
abbrev pub turn_of : Kind → ℕ
turn_of Cnot = 0
turn_of (Phase v) = v
turn_of Unknown = 0

-- it adds less than a whole turn
turns_small : Holds (every (suc last_kind) (λ k. ltb (turn_of (kind_of k)) 8))
unfolding every kind_of
turns_small = tt

turn_lt : (kind : ℕ) → turn_of (kind_of kind) < 8
turn_lt kind = go (dec_lt last_kind kind)
  where
    go : Dec (last_kind < kind) → turn_of (kind_of kind) < 8
    go (yes h) = rw (kind_above kind h) (omega arith)
    go (no h) = ltb→lt _ 8 (every-at (suc last_kind) (λ k. ltb (turn_of (kind_of k)) 8) turns_small kind (omega arith))

pub phase_lt : (kind v : ℕ) → kind_of kind ≡ Phase v → v < 8
phase_lt kind v e = rw e at (turn_lt kind)

-- an odd number exactly where it is T or T dagger
odd_turns : Holds (every (suc last_kind) (λ k. eqb (is_t k) (turn_of (kind_of k) % 2)))
unfolding every kind_of is_t delta
odd_turns = tt

t_above : (kind : ℕ) → last_kind < kind → is_t kind ≡ 0
unfolding is_t
t_above kind h = rw (delta-other T kind (omega arith), delta-other T_DAGGER kind (omega arith))

pub t_is_odd : (kind : ℕ) → is_t kind ≡ turn_of (kind_of kind) % 2
t_is_odd kind = go (dec_lt last_kind kind)
  where
    go : Dec (last_kind < kind) → is_t kind ≡ turn_of (kind_of kind) % 2
    go (yes h) = rw (kind_above kind h) (t_above kind h)
    go (no h) = eqb→eq _ _ (every-at (suc last_kind) (λ k. eqb (is_t k) (turn_of (kind_of k) % 2)) odd_turns kind (omega arith))
