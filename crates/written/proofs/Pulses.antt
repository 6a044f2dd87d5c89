-- The rack without a native Z can run a list whose gates have no fault exactly where the list holds no Z: every other kind is in its pulse
-- table. That is one test, computed at each kind up to the last.
use mathlib.Core.List.{List, [], ◌∷◌}
use mathlib.Core.Logic.{◌↔◌}
use mathlib.Core.Path.{◌∙◌, ◌≡◌, refl}
use Prim.Native.Nat.{◌+◌, suc, ℕ}
use native.Mathlib.Omega.{arith}
use lib.Dec.{T as Holds, eqb, eqb→eq}
use Rattle.circuit.proofs.GateKinds.{known_kind}
use Rattle.circuit.specs.Faults.{AllWellFormed, KindWellFormed, WellFormed}
use Rattle.circuit.specs.Gate.{Gate, Z, gate, kind_of, last_kind}
use Rattle.circuit.specs.Gate.{Kind}
use Rattle.circuit.specs.Gate.{Cnot, Phase, Unknown}
use Rattle.gf2.proofs.Every.{every-at}
use Rattle.gf2.specs.Every.{every}
use Rattle.gf2.specs.Sum.{delta}
use Rattle.written.specs.Spelling.{RackRuns, gates_of_kind, occurs, pulses}

-- 1 for a kind that there is, else 0
abbrev is_kind : Kind → ℕ
is_kind Cnot = 1
is_kind (Phase v) = 1
is_kind Unknown = 0

-- each kind is in the table once, or it is Z
kinds_each : Holds (every (suc last_kind) (λ k. eqb (occurs k pulses + delta Z k) (is_kind (kind_of k))))
unfolding every occurs delta kind_of
kinds_each = tt

in_table : (n kind a b : ℕ) → WellFormed n (gate kind a b) → occurs kind pulses + delta Z kind ≡ 1
in_table n kind a b w =
    eqb→eq _ _ (every-at (suc last_kind) _ kinds_each kind (omega (arith, known_kind n kind a b w))) ∙ is_one (kind_of kind) w
  where
    is_one : (k : Kind) → KindWellFormed n k a b → is_kind k ≡ 1
    is_one Cnot f = refl
    is_one (Phase v) f = refl
    is_one Unknown f = absurd f

module _ (n : ℕ) where
  no_z_in : (gs : List Gate) → AllWellFormed n gs → RackRuns gs → gates_of_kind Z gs ≡ 0
  unfolding gates_of_kind
  no_z_in [] f r = refl
  no_z_in (gate kind a b ∷ gs) f r = omega (arith, in_table n kind a b f.0, r.0, no_z_in gs f.1 r.1)

  known : (gs : List Gate) → AllWellFormed n gs → gates_of_kind Z gs ≡ 0 → RackRuns gs
  unfolding gates_of_kind
  known [] f e = tt
  known (gate kind a b ∷ gs) f e = (omega (arith, in_table n kind a b f.0, e), known gs f.1 (omega (arith, e)))

  pub runs_without_z : (gs : List Gate) → AllWellFormed n gs → RackRuns gs ↔ (gates_of_kind Z gs ≡ 0)
  runs_without_z gs f = (no_z_in gs f, known gs f)
