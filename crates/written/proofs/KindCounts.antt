-- Gates counted by kind. In an accepted list each phase gate adds at one parity below 2^n, so the gates of a kind are those at each parity,
-- summed.
use mathlib.Core.List.{◌++◌, List, [], ◌∷◌}
use mathlib.Core.Path.{◌≡◌, ap, refl, sym, ◌∙◌}
use Prim.Native.Nat.{◌+◌, ◌<◌, ◌^◌, ℕ, ◌≤◌}
use native.Mathlib.Omega.{arith}
use lib.Dec.{eqb}
use borrow.Author.Tests.{eq-eqb, ne_eqb}
use Rattle.circuit.proofs.Sound.{gate_keeps}
use Rattle.circuit.specs.Faults.{AllWellFormed, KindWellFormed}
use Rattle.circuit.specs.Gate.{Gate, T, T_DAGGER, gate, is_t, kind_of, t_gates}
use Rattle.circuit.specs.Read.{Reading, read_gate, row}
use Rattle.circuit.specs.Sound.{SoundReading}
use Rattle.gf2.proofs.Sum.{delta-other, sum-add, sum-ext, sum-single, sum-zero}
use Rattle.gf2.specs.Sum.{delta, sum}
use Rattle.written.specs.Spelling.{gates_of_kind, kind_here, kinds_at, occurs}
use Rattle.circuit.specs.Gate.{Kind}
use Rattle.circuit.specs.Gate.{Cnot, Phase, Unknown}

occurs-append : (kind : ℕ) (xs ys : List ℕ) → occurs kind (xs ++ ys) ≡ occurs kind xs + occurs kind ys
unfolding occurs
occurs-append kind [] ys = omega arith
occurs-append kind (x ∷ xs) ys = omega (arith, occurs-append kind xs ys)

pub t_by_kind : (gs : List Gate) → t_gates gs ≡ gates_of_kind T gs + gates_of_kind T_DAGGER gs
unfolding t_gates gates_of_kind is_t
t_by_kind [] = refl
t_by_kind (gate kind a b ∷ gs) = omega (arith, t_by_kind gs)

module _ (kind v : ℕ) (phase : kind_of kind ≡ Phase v) where
  -- one gate, on a wire that holds q
  here_total : (n q k a b : ℕ) (K : Kind) → q < 2 ^ n → kind_of k ≡ K → KindWellFormed n K a b
      → sum (2 ^ n) (λ p. occurs kind (kind_here K (eqb q p) k)) ≡ delta kind k
  unfolding occurs
  here_total n q k a b Cnot h e f = sum-zero (2 ^ n) ∙ sym (delta-other kind k (λ s. never (ap kind_of s)))
    where
      never : kind_of k ≡ kind_of kind → ⊥
      never s = let c : Cnot ≡ Phase v = sym e ∙ s ∙ phase in let z : ◌≡◌ {A = ℕ} 0 1 = cc in omega arith
  here_total n q k a b (Phase u) h e f =
      sum-single (2 ^ n) q (λ p. occurs kind (kind_here (Phase u) (eqb q p) k)) h (λ p l ne. rw (ne_eqb q p (λ s. ne (sym s))))
      ∙ rw (eq-eqb q q refl) (omega arith)
  here_total n q k a b Unknown h e f = absurd f

  -- a list, from any sound reading
  pub kinds_total : (N n : ℕ) → n ≤ N → (gs : List Gate) (r : Reading) → AllWellFormed n gs → SoundReading N n r
      → gates_of_kind kind gs ≡ sum (2 ^ n) (λ p. occurs kind (kinds_at p gs r))
  unfolding gates_of_kind kinds_at occurs
  kinds_total N n fit [] r f o = sym (sum-zero (2 ^ n))
  kinds_total N n fit (gate k a b ∷ gs) r f o =
      let q : ℕ = row r a in
      let r' : Reading = read_gate (gate k a b) r in
      let here : ℕ → ℕ = λ p. occurs kind (kind_here (kind_of k) (eqb q p) k) in
      let rest : ℕ → ℕ = λ p. occurs kind (kinds_at p gs r') in
      omega (
        arith,
        here_total n q k a b (kind_of k) (o.rows.within a) refl f.0,
        kinds_total N n fit gs r' f.1 (gate_keeps N n fit (gate k a b) r f.0 o),
        sum-ext (2 ^ n) (λ p. occurs kind (kind_here (kind_of k) (eqb q p) k ++ kinds_at p gs r')) (λ p. here p + rest p)
            (λ p l. occurs-append kind (kind_here (kind_of k) (eqb q p) k) (kinds_at p gs r')),
        sum-add (2 ^ n) here rest,
      )
