-- Demand 3 from its parts: reading is running, moves keep the signature and afford themselves, none is left,
-- the new weights have the phases of C,
-- and the list written reads back.
use mathlib.Core.List.{List}
use mathlib.Core.Path.{ap, ap₂, sym, ◌∙◌, ◌≡◌}
use Prim.Native.Nat.{◌+◌, ◌<◌, ◌^◌, ℕ, ◌≤◌}
use native.Mathlib.Omega.{arith}
use lib.ListN.{length}
use Rattle.circuit.proofs.OddSet.{odd_set_at_most_t}
use Rattle.circuit.proofs.ReadRuns.{read_runs}
use Rattle.circuit.proofs.Sound.{read_sound}
use Rattle.circuit.specs.Faults.{AllWellFormed}
use Rattle.circuit.specs.Gate.{Gate, t_gates}
use Rattle.circuit.specs.Limits.{max_members, max_wires, move_cells, parities}
use Rattle.circuit.specs.OddSet.{member_count, odd_set}
use Rattle.circuit.specs.Read.{read}
use Rattle.circuit.specs.Run.{SameAction}
use Rattle.circuit.specs.Says.{end_state, phase_at}
use Rattle.circuit.specs.Sound.{SoundMarks}
use Rattle.moves.proofs.Laws.{limits_suffice, log_holds, none_legal_bound, one_number}
use Rattle.moves.proofs.Logs.{logged_length}
use Rattle.moves.proofs.Replaying.{replays_shrinks, replays_signature, replays_sound, signature_trans}
use Rattle.moves.specs.Log.{logged}
use Rattle.moves.specs.Move.{NoneLegal}
use Rattle.moves.specs.Replay.{Replays, SmallestEach}
use Rattle.phase.proofs.Laws.{new_weights_odd_set, new_weights_same_phases, odd_set_has_signature, odd_set_is_sound}
use Rattle.phase.specs.NewWeights.{new_weights}
use Rattle.phase.specs.Signature.{SameSignature}
use Rattle.trimmed.specs.Trimmed.{Trimmed, odd_set_of, weights_of}
use Rattle.trimmed.specs.declared.Counts.{Counts}

module _ (n : ℕ) (fit : n ≤ max_wires) (C : List Gate) (f_c : AllWellFormed n C) (log : List ℕ) (k : ℕ) (marks : List ℕ)
    (replayed : Replays max_members n (odd_set_of n C) (logged move_cells log k) marks) where
  w : List ℕ
  w = weights_of n C

  first : SoundMarks parities n (odd_set_of n C)
  first = odd_set_is_sound parities n (weights_of n C) (read_sound max_wires n fit C f_c).weights

  pub marks_sound : SoundMarks parities n marks
  marks_sound =
      replays_sound parities n max_members (limits_suffice n fit).0 (odd_set_of n C) (logged move_cells log k) marks first replayed

  -- moves and members left are no more than the members at first
  pub moves_afford : k + member_count marks ≤ member_count (odd_set_of n C)
  moves_afford =
      omega (
        arith,
        replays_shrinks parities n max_members (limits_suffice n fit).0 (odd_set_of n C) (logged move_cells log k) marks first replayed,
        logged_length move_cells k log,
      )

  same : SameSignature n marks (weights_of n C)
  same =
      signature_trans n marks (odd_set_of n C) (weights_of n C)
      (replays_signature parities n max_members (limits_suffice n fit).0 (odd_set_of n C) (logged move_cells log k) marks first replayed)
      (odd_set_has_signature n (weights_of n C))

  module _ (smallest : SmallestEach max_members n (odd_set_of n C) (logged move_cells log k)) (none : NoneLegal max_members n marks)
      (D : List Gate) (f_d : AllWellFormed n D)
      (w_d : weights_of n D ≡ new_weights parities n (weights_of n C) marks) (r_d : (read max_wires n D).rows ≡ (read max_wires n C).rows)
      (t_d : t_gates D ≡ member_count (odd_set_of n D)) where
    odd_d : odd_set_of n D ≡ marks
    odd_d = ap odd_set w_d ∙ new_weights_odd_set parities n (limits_suffice n fit).0 (weights_of n C) marks marks_sound same

    phases : (x : ℕ) → x < 2 ^ n → phase_at n (weights_of n D) x ≡ phase_at n (weights_of n C) x
    phases x h =
        ap (λ (v : List ℕ). phase_at n v x) w_d
        ∙ new_weights_same_phases parities n (limits_suffice n fit).0 (weights_of n C) marks marks_sound same x h

    acts : SameAction n C D
    acts x h =
        read_runs max_wires n fit D f_d x h
        ∙ ap₂ (λ (b φ : ℕ). record { bits = b; phase = φ }) (ap (λ (rows : List ℕ). end_state n rows x) r_d) (phases x h)
        ∙ sym (read_runs max_wires n fit C f_c x h)

    t_of_d : t_gates D ≡ member_count marks
    t_of_d = t_d ∙ ap member_count odd_d

    pub whole : (counts : Counts) → counts.tin ≡ t_gates C → counts.odd ≡ member_count (odd_set_of n C) → counts.tout ≡ member_count marks
        → counts.moves ≡ k → counts.gates ≡ length D
        → Trimmed n C D log counts
    whole counts tin odd tout moves gates =
        let made : Replays max_members n (odd_set_of n C) (logged move_cells log counts.moves) (odd_set_of n D) = rw (moves, odd_d)
        replayed in
        let last : NoneLegal max_members n (odd_set_of n D) = rw odd_d none in
        record {
          formed = f_d;
          acts = acts;
          t_out = tout ∙ sym t_of_d;
          one_each = t_d;
          no_more = omega (arith, t_of_d, moves_afford, odd_set_at_most_t max_wires n fit C f_c);
          bound =
              omega (
                arith,
                t_of_d,
                none_legal_bound parities n max_members (limits_suffice n fit).0 marks marks_sound (limits_suffice n fit).1 none,
              );
          replayed = made;
          smallest = rw moves smallest;
          weights = rw odd_d w_d;
          finished = last;
          moves_logged = λ m r. one_number max_members n move_cells log (odd_set_of n C) m counts.moves (odd_set_of n D) last r made;
          log_holds = log_holds max_members n move_cells log (odd_set_of n C) counts.moves (odd_set_of n D) made;
          t_in = tin;
          odd_size = odd;
          gates_written = gates;
          afford = omega (arith, t_of_d, moves, moves_afford);
        }
