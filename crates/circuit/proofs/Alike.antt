-- Two lists act alike, or a basis state tells them apart: never both, and always one. Over n, for any lists.
use mathlib.Core.List.{List}
use mathlib.Core.Logic.{inl, inr, ◌≢◌, ◌⊎◌}
use mathlib.Core.Path.{ap, ◌≡◌}
use Prim.Native.Nat.{◌<◌, ◌^◌, suc, zero, ℕ}
use native.Mathlib.Decide.{ℕ_discrete}
use native.Mathlib.Omega.{arith}
use Rattle.circuit.specs.Gate.{Gate}
use Rattle.circuit.specs.Run.{SameAction, State, ToldApart, run}

same_state : (s t : State) → Dec (s ≡ t)
same_state s t = go (ℕ_discrete s.bits t.bits) (ℕ_discrete s.phase t.phase)
  where
    go : Dec (s.bits ≡ t.bits) → Dec (s.phase ≡ t.phase) → Dec (s ≡ t)
    go (yes p) (yes q) = yes (λ i. record { bits = p i; phase = q i })
    go (no p) d = no (λ e. p (ap (λ (u : State). u.bits) e))
    go (yes p) (no q) = no (λ e. q (ap (λ (u : State). u.phase) e))

module _ (n : ℕ) (C D : List Gate) where
  pub not_both : ToldApart n C D → SameAction n C D → ⊥
  not_both t alike = t.differs (alike t.state t.below)

  -- the first k states
  search_below : (k : ℕ) → ((x : ℕ) → x < k → run D x ≡ run C x) ⊎ ((x : ℕ) × (x < k) × (run D x ≢ run C x))
  search_below zero = inl (λ x l. absurd (omega arith))
  search_below (suc k) = go (search_below k) (same_state (run D k) (run C k))
    where
      go : ((x : ℕ) → x < k → run D x ≡ run C x) ⊎ ((x : ℕ) × (x < k) × (run D x ≢ run C x)) → Dec (run D k ≡ run C k)
          → ((x : ℕ) → x < suc k → run D x ≡ run C x) ⊎ ((x : ℕ) × (x < suc k) × (run D x ≢ run C x))
      go (inr t) d = inr (t.0, omega (arith, t.1), t.2)
      go (inl alike) (no ne) = inr (k, omega arith, ne)
      go (inl alike) (yes e) = inl (λ x l. at x (ℕ_discrete x k) l)
        where
          at : (x : ℕ) → Dec (x ≡ k) → x < suc k → run D x ≡ run C x
          at x (yes s) l = rw s e
          at x (no ne) l = alike x (omega arith)

  pub one_of_both : (SameAction n C D → ⊥) → ToldApart n C D
  one_of_both not = go (search_below (2 ^ n))
    where
      go : ((x : ℕ) → x < 2 ^ n → run D x ≡ run C x) ⊎ ((x : ℕ) × (x < 2 ^ n) × (run D x ≢ run C x)) → ToldApart n C D
      go (inl alike) = absurd (not alike)
      go (inr t) = record { state = t.0; below = t.1; differs = t.2 }
