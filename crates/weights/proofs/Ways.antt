-- No fault, exactly where a call brings and lends what it must.
use mathlib.Core.List.{List}
use mathlib.Core.Logic.{◌↔◌}
use mathlib.Core.Path.{◌≡◌}
use Prim.Native.Nat.{ℕ, ◌≤◌}
use Rattle.circuit.proofs.Judging.{lent_pass, lent_well, or_pass, or_well}
use Rattle.circuit.proofs.TableRule.{weights_passes}
use Rattle.circuit.specs.Faults.{lent_fault, or_else}
use Rattle.circuit.specs.Limits.{max_wires, pair_bytes, parities, table_bytes, triple_bytes}
use Rattle.circuit.specs.Sound.{SoundWeights}
use Rattle.weights.specs.Entry.{coefficients_fault, lists_fault, odd_set_fault}

-- a wire count that is no fault
abbrev pub FewWires : ℕ → Type 0
FewWires n = (1 ≤ n) × (n ≤ max_wires)

-- ---- the entries

pub odd_set_passes : (n : ℕ) (w : List ℕ) (marks : ℕ)
    → (odd_set_fault n w marks ≡ 0) ↔ (FewWires n × (marks ≡ table_bytes) × SoundWeights parities n w)
odd_set_passes n w marks = (
  λ e. let a = (weights_passes n (lent_fault marks table_bytes) w).0 e in (a.0, lent_pass marks table_bytes a.1, a.2),
  λ s. (weights_passes n (lent_fault marks table_bytes) w).1 (s.0, lent_well marks table_bytes s.1, s.2),
)

-- the lengths of the three lists
abbrev pub Lengths : ℕ → ℕ → ℕ → Type 0
Lengths l q c = (l ≡ max_wires) × (q ≡ pair_bytes) × (c ≡ triple_bytes)

lists_passes : (l q c : ℕ) → (lists_fault l q c ≡ 0) ↔ Lengths l q c
lists_passes l q c = (
  λ e. let a = or_pass (lent_fault l max_wires) (or_else (lent_fault q pair_bytes) (lent_fault c triple_bytes)) e in
      let b = or_pass (lent_fault q pair_bytes) (lent_fault c triple_bytes) a.1 in
      (lent_pass l max_wires a.0, lent_pass q pair_bytes b.0, lent_pass c triple_bytes b.1),
  λ s. or_well _ _ (lent_well l max_wires s.0) (or_well _ _ (lent_well q pair_bytes s.1) (lent_well c triple_bytes s.2)),
)

pub coefficients_passes : (n : ℕ) (w : List ℕ) (l q c : ℕ)
    → (coefficients_fault n w l q c ≡ 0) ↔ (FewWires n × Lengths l q c × SoundWeights parities n w)
coefficients_passes n w l q c = (
  λ e. let a = (weights_passes n (lists_fault l q c) w).0 e in (a.0, (lists_passes l q c).0 a.1, a.2),
  λ s. (weights_passes n (lists_fault l q c) w).1 (s.0, (lists_passes l q c).1 s.1, s.2),
)
