-- Trimming a trimmed block, from the statements of the two trims alone.
use mathlib.Core.List.{List}
use mathlib.Core.Path.{ap, ap₂, subst, sym, ◌∙◌, ◌≡◌}
use Prim.Native.Nat.{◌<◌, ◌^◌, ℕ, ◌≤◌}
use native.Mathlib.Decide.{dec_lt}
use native.Mathlib.Omega.{arith}
use lib.ListN.{length}
use lib.Pow.{pow-lt}
use Rattle.circuit.proofs.Laws.{reading_is_sound, same_action_same_rows}
use Rattle.circuit.proofs.Sound.{weights_long}
use Rattle.circuit.specs.Gate.{Gate}
use Rattle.circuit.specs.Limits.{max_members, max_wires, move_cells, parities}
use Rattle.circuit.specs.OddSet.{member_count, odd_set}
use Rattle.circuit.specs.Read.{read}
use Rattle.circuit.specs.Sound.{SoundMarks}
use Rattle.moves.proofs.Laws.{limits_suffice, none_legal_stays}
use Rattle.phase.proofs.Laws.{new_weights_again, new_weights_hold, odd_set_is_sound}
use Rattle.phase.specs.NewWeights.{new_weights}
use Rattle.trimmed.specs.Again.{TrimmedAgain}
use Rattle.trimmed.specs.Trimmed.{Trimmed, odd_set_of, weights_of}
use Rattle.trimmed.specs.declared.Counts.{Counts}

-- the statement holds of no n beyond the limit: D's weights are as many as all parities, and as those of n wires at least
within : {n : ℕ} {C D : List Gate} {log : List ℕ} {counts : Counts} → Trimmed n C D log counts → n ≤ max_wires
within {n} {C} {D} d = go (dec_lt max_wires n)
  where
    holds : 2 ^ n ≤ length (weights_of n D)
    holds = subst (λ (w : List ℕ). 2 ^ n ≤ length w) (sym d.weights) (new_weights_hold parities n _ _)

    go : Dec (max_wires < n) → n ≤ max_wires
    go (yes h) = let p : 2 ^ max_wires < 2 ^ n = pow-lt h in absurd (omega (arith, holds, weights_long max_wires n D))
    go (no g) = omega arith

module _ (n : ℕ) (C D E : List Gate) (log log' : List ℕ) (first again : Counts) (d : Trimmed n C D log first)
    (e : Trimmed n D E log' again) where
  fit : n ≤ max_wires
  fit = within d

  -- D's odd set has no legal move, so no logged move starts there
  stays : (again.moves ≡ 0) × (odd_set_of n D ≡ odd_set_of n E)
  stays = none_legal_stays max_members n move_cells log' (odd_set_of n D) again.moves (odd_set_of n E) d.finished e.replayed

  same_t : member_count (odd_set_of n D) ≡ first.tout
  same_t = sym (d.t_out ∙ d.one_each)

  -- the new weights for D and its own odd set are D's weights: they have the shape, and D's phases, and only one rest does that
  own_new_weights : new_weights parities n (weights_of n D) (odd_set_of n D) ≡ weights_of n D
  own_new_weights =
      let sound : SoundMarks parities n (odd_set_of n D) =
      odd_set_is_sound parities n (weights_of n D) (reading_is_sound max_wires n fit D d.formed).weights in
      ap (λ (w : List ℕ). new_weights parities n w (odd_set_of n D)) d.weights
      ∙ new_weights_again parities n (limits_suffice n fit).0 (weights_of n C) (odd_set_of n D) sound (sym (ap odd_set d.weights))
      ∙ sym d.weights

  same_weights : weights_of n E ≡ weights_of n D
  same_weights = e.weights ∙ ap (new_weights parities n (weights_of n D)) (sym stays.1) ∙ own_new_weights

  same_rows : (read max_wires n E).rows ≡ (read max_wires n D).rows
  same_rows = same_action_same_rows max_wires n fit D E d.formed e.formed e.acts

  pub trimmed_again : TrimmedAgain n D E first again
  trimmed_again =
      record {
        no_move = stays.0;
        t_in = e.t_in ∙ sym d.t_out;
        odd_size = e.odd_size ∙ same_t;
        t_out = e.t_out ∙ e.one_each ∙ ap member_count (sym stays.1) ∙ same_t;
        reads = ap₂ (λ (w rows : List ℕ). record { weights = w; rows = rows }) same_weights same_rows;
      }
