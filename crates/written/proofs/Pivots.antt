-- The pivot of a mask: the lowest wire from r on that it names, or none.
use mathlib.Core.Logic.{inl, inr, ◌⊎◌}
use mathlib.Core.Path.{ap, ◌∙◌, ◌≡◌}
use Prim.Native.Nat.{◌+◌, ◌-◌, ◌<◌, suc, zero, ℕ, ◌≤◌}
use native.Mathlib.Decide.{ℕ_discrete}
use native.Mathlib.Omega.{arith}
use Rattle.gf2.proofs.Bit.{bit-lt, bit-values}
use Rattle.gf2.specs.Bit.{bit}
use Rattle.written.specs.Writing.{choose, pivot, pivot_from}

pub pivot_hit : (k r m : ℕ) → bit m r ≡ 1 → pivot_from (suc k) r m ≡ r
unfolding pivot_from choose
pivot_hit k r m e = rw e

pub pivot_miss : (k r m : ℕ) → bit m r ≡ 0 → pivot_from (suc k) r m ≡ pivot_from k (suc r) m
unfolding pivot_from choose
pivot_miss k r m e = rw e

-- no wire from r on is named
record None (k r m : ℕ) : Type 0 where
  at : pivot_from k r m ≡ r + k
  empty : (b : ℕ) → r ≤ b → b < r + k → bit m b ≡ 0

-- the pivot is one that is named
record Some (k r m : ℕ) : Type 0 where
  from : r ≤ pivot_from k r m
  to : pivot_from k r m < r + k
  named : bit m (pivot_from k r m) ≡ 1

pivot_is : (k r m : ℕ) → None k r m ⊎ Some k r m
unfolding pivot_from
pivot_is zero r m = inl (record { at = omega arith; empty = λ b h l. absurd (omega arith) })
pivot_is (suc k) r m = go (bit-values (bit m r) (bit-lt m r)) (pivot_is k (suc r) m)
  where
    clear : bit m r ≡ 0 → None k (suc r) m → (b : ℕ) → r ≤ b → b < r + suc k → Dec (b ≡ r) → bit m b ≡ 0
    clear e x b lo hi (yes q) = rw q e
    clear e x b lo hi (no q) = x.empty b (omega arith) (omega arith)

    go : (bit m r ≡ 0) ⊎ (bit m r ≡ 1) → None k (suc r) m ⊎ Some k (suc r) m → None (suc k) r m ⊎ Some (suc k) r m
    go (inl e) (inl x) =
        inl (record { at = omega (arith, pivot_miss k r m e, x.at); empty = λ b lo hi. clear e x b lo hi (ℕ_discrete b r) })
    go (inl e) (inr x) =
        let s = pivot_miss k r m e in
        inr (record { from = omega (arith, s, x.from); to = omega (arith, s, x.to); named = ap (bit m) s ∙ x.named })
    go (inr e) y =
        let s = pivot_hit k r m e in
        inr (record { from = omega (arith, s); to = omega (arith, s); named = ap (bit m) s ∙ e })

-- mask m names wire b, one from r on and below n
pub record Names (n r m b : ℕ) : Type 0 where
  pub from : r ≤ b
  pub inside : b < n
  pub named : bit m b ≡ 1

module _ (n r m : ℕ) (inside : r ≤ n) where
  pub pivot_none : n ≤ pivot n r m → (b : ℕ) → r ≤ b → b < n → bit m b ≡ 0
  pivot_none h b lo hi = go (pivot_is (n - r) r m)
    where
      go : None (n - r) r m ⊎ Some (n - r) r m → bit m b ≡ 0
      go (inl x) = x.empty b lo (omega arith)
      go (inr x) = absurd (omega (arith, x.to))

  pub pivot_some : pivot n r m < n → Names n r m (pivot n r m)
  pivot_some h = go (pivot_is (n - r) r m)
    where
      go : None (n - r) r m ⊎ Some (n - r) r m → Names n r m (pivot n r m)
      go (inl x) = absurd (omega (arith, x.at))
      go (inr x) = record { from = x.from; inside = h; named = x.named }
