-- No legal move has a z below a bound: the first bound, and the next one.
use mathlib.Core.List.{List}
use mathlib.Core.Path.{◌∙◌, ◌≡◌, sym}
use Prim.Native.Nat.{◌+◌, ◌≤◌, ℕ}
use native.Mathlib.Decide.{ℕ_discrete}
use native.Mathlib.Omega.{arith}
use Rattle.gf2.proofs.Pairing.{xor_equal}
use Rattle.moves.specs.Move.{Legal, NoneBelow}

-- the z of a legal move is not 0
pub none_below_one : (most n : ℕ) (marks : List ℕ) → NoneBelow most n marks 1
none_below_one most n marks z Y l = go (ℕ_discrete z 0)
  where
    go : Dec (z ≡ 0) → 1 ≤ z
    go (yes e) =
        let s = l.separates in
        absurd (s.b_out (s.a_in.0, s.a_in.1, s.a_in.2 ∙ xor_equal s.a s.b (sym s.z_is ∙ e)))
    go (no ne) = omega arith

-- nor k, where no move with k is legal
pub none_below_more : (most n : ℕ) {marks : List ℕ} (k : ℕ) → NoneBelow most n marks k → ((Y : List ℕ) → Legal most n marks k Y → ⊥)
    → NoneBelow most n marks (k + 1)
none_below_more most n k below none z Y l = go (ℕ_discrete z k)
  where
    go : Dec (z ≡ k) → k + 1 ≤ z
    go (yes e) = absurd (none Y (rw e at l))
    go (no ne) = omega (arith, below z Y l)
