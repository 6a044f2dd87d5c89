-- The trim of a list on one wire that has nothing to write reports five times 0: no CNOT fits on one wire, and each phase gate of a
-- written list spells a weight.
use mathlib.Core.List.{List, [], ◌∷◌}
use mathlib.Core.Path.{ap, refl, subst, sym, ◌∙◌, ◌≡◌}
use Prim.Native.Nat.{ℕ}
use native.Mathlib.Omega.{arith}
use lib.ListN.{length}
use Rattle.circuit.proofs.Sound.{no_weight}
use Rattle.circuit.specs.Faults.{AllWellFormed, KindWellFormed}
use Rattle.circuit.specs.Gate.{Gate, gate, kind_of, t_gates}
use Rattle.circuit.specs.Limits.{max_members, max_wires, move_cells, parities}
use Rattle.circuit.specs.OddSet.{member_count}
use Rattle.circuit.specs.Read.{no_weights}
use Rattle.circuit.specs.Sound.{weight}
use Rattle.circuit.specs.Gate.{Kind}
use Rattle.circuit.specs.Gate.{Cnot, Phase, Unknown}
use Rattle.gf2.proofs.Sum.{delta-same, sum-ext, sum-zero}
use Rattle.moves.specs.Log.{logged}
use Rattle.moves.specs.Replay.{Replays}
use Rattle.phase.specs.NewWeights.{new_weights}
use Rattle.written.proofs.Spelled.{occurs-none}
use Rattle.written.specs.Spelling.{gates_of_kind, occurs, spelled_gates, spelling}
use Rattle.trimmed.specs.Trimmed.{Trimmed, odd_set_of, weights_of}
use Rattle.trimmed.specs.declared.Counts.{Counts}
use Rattle.trimmer.specs.Entry.{WritesFor, no_counts}

pub all_none : (k : Counts) → k.tin ≡ 0 → k.odd ≡ 0 → k.tout ≡ 0 → k.moves ≡ 0 → k.gates ≡ 0 → k ≡ no_counts
all_none k a b c d e = λ i. record { tin = a i; odd = b i; tout = c i; moves = d i; gates = e i }

-- a list on one wire that has no phase gate of any kind is empty
no_gate : (gs : List Gate) → AllWellFormed 1 gs → ((kind v : ℕ) → kind_of kind ≡ Phase v → gates_of_kind kind gs ≡ 0) → gs ≡ []
unfolding gates_of_kind
no_gate [] f none = refl
no_gate (gate kind a b ∷ gs) f none = absurd (go (kind_of kind) refl f.0)
  where
    go : (k : Kind) → kind_of kind ≡ k → KindWellFormed 1 k a b → ⊥
    go Cnot e w = w.2 (omega (arith, w.0, w.1))
    go (Phase v) e w = omega (arith, none kind v e, delta-same kind)
    go Unknown e w = w

-- where every weight is 0, nothing is spelled
unspelled : (kind N : ℕ) → spelled_gates kind (no_weights N) ≡ 0
unfolding spelled_gates
unspelled kind N =
    sum-ext (length (no_weights N)) (λ p. occurs kind (spelling (weight (no_weights N) p))) (λ p. 0)
    (λ p l. occurs-none kind (weight (no_weights N) p) (no_weight N p))
    ∙ sum-zero (length (no_weights N))

-- a list on one wire whose trim has nothing to write: no T gate, no odd weight, and no new weights
pub record NothingToWrite (C : List Gate) : Type 0 where
  pub no_t : t_gates C ≡ 0
  pub no_odd : member_count (odd_set_of 1 C) ≡ 0
  pub none : new_weights parities 1 (weights_of 1 C) (odd_set_of 1 C) ≡ no_weights max_wires

module _ {C D : List Gate} {log : List ℕ} {counts : Counts} (nothing : NothingToWrite C) (t : Trimmed 1 C D log counts)
    (written : WritesFor 1 C D) where
  no_moves : counts.moves ≡ 0
  no_moves = omega (arith, t.afford, nothing.no_odd)

  -- no move, so D's odd set is C's
  same_odd : odd_set_of 1 C ≡ odd_set_of 1 D
  unfolding logged Replays
  same_odd = subst (λ (k : ℕ). Replays max_members 1 (odd_set_of 1 C) (logged move_cells log k) (odd_set_of 1 D)) no_moves t.replayed

  weights_none : new_weights parities 1 (weights_of 1 C) (odd_set_of 1 D) ≡ no_weights max_wires
  weights_none = ap (new_weights parities 1 (weights_of 1 C)) (sym same_odd) ∙ nothing.none

  no_gates : D ≡ []
  no_gates = no_gate D t.formed (λ kind v e. written.kinds kind v e ∙ ap (spelled_gates kind) weights_none ∙ unspelled kind max_wires)

  pub nothing_counted : counts ≡ no_counts
  nothing_counted =
      all_none counts (t.t_in ∙ nothing.no_t) (t.odd_size ∙ nothing.no_odd)
      (omega (arith, t.t_out, t.no_more, nothing.no_t)) no_moves (t.gates_written ∙ ap length no_gates)
