-- Two lists act alike exactly where their rows are the same and so are l, q and c: no state has to be tried. Over n and N.
use mathlib.Core.List.{List}
use mathlib.Core.Path.{ap, sym, ◌∙◌, ◌≡◌}
use Prim.Native.Nat.{◌<◌, ◌^◌, ℕ, ◌≤◌}
use Rattle.circuit.proofs.Laws.{reading_is_running, same_action_same_rows}
use Rattle.circuit.specs.Faults.{AllWellFormed}
use Rattle.circuit.specs.Gate.{Gate}
use Rattle.circuit.specs.Read.{read}
use Rattle.circuit.specs.Run.{SameAction, State, run}
use Rattle.circuit.specs.Says.{end_state, phase_at, says}
use Rattle.phase.proofs.Converse.{phases_iff}
use Rattle.phase.specs.Coefficients.{SamePhases, SaysSame}

module _ (N n : ℕ) (fit : n ≤ N) (C D : List Gate) (formed_c : AllWellFormed n C) (formed_d : AllWellFormed n D) where
  run_c : (x : ℕ) → x < 2 ^ n → run C x ≡ says n (read N n C) x
  run_c = reading_is_running N n fit C formed_c

  run_d : (x : ℕ) → x < 2 ^ n → run D x ≡ says n (read N n D) x
  run_d = reading_is_running N n fit D formed_d

  pub said_alike : SaysSame n (read N n D) (read N n C) → SameAction n C D
  said_alike same x l = run_d x l ∙ said ∙ sym (run_c x l)
    where
      bits : end_state n (read N n D).rows x ≡ end_state n (read N n C).rows x
      bits = ap (λ (rows : List ℕ). end_state n rows x) same.rows

      phase : phase_at n (read N n D).weights x ≡ phase_at n (read N n C).weights x
      phase = (phases_iff n (read N n D).weights (read N n C).weights).1 same.coefficients x l

      said : says n (read N n D) x ≡ says n (read N n C) x
      said = λ i. record { bits = bits i; phase = phase i }

  pub alike_said : SameAction n C D → SaysSame n (read N n D) (read N n C)
  alike_said alike =
      record {
        rows = same_action_same_rows N n fit C D formed_c formed_d alike;
        coefficients = (phases_iff n (read N n D).weights (read N n C).weights).0 same;
      }
    where
      same : SamePhases n (read N n D).weights (read N n C).weights
      same x l = ap (λ (s : State). s.phase) (sym (run_d x l) ∙ alike x l ∙ run_c x l)
