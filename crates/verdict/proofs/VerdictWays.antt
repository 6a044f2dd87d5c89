-- One law for each way out of `read` and `judge`: what the text reader and `compare` reply, and the line that is printed for it.
use mathlib.Core.List.{List}
use mathlib.Core.Path.{◌≡◌, refl}
use mathlib.Core.Logic.{◌≢◌}
use Prim.Native.Nat.{◌≤◌, ℕ}
use lib.ListN.{length}
use Rattle.std.specs.Prelude.{Err, MatchResult, None, Ok, Result, Some}
use Rattle.circuit.specs.Limits.{max_list_bytes}
use Rattle.circuit.specs.Told.{number}
use Rattle.circuit.specs.declared.faults.Refusal.{Refusal}
use Rattle.compare.specs.Entry.{ComparesLists}
use Rattle.compare.specs.declared.Compared.{Compared}
use Rattle.text.proofs.TextLaws.{circuit_left, done_reads, fault_said_lem}
use Rattle.text.specs.Entry.{ReadText}
use Rattle.text.specs.Text.{Text, circuit, faulty, read_text}
use Rattle.text.specs.declared.Circuit.{Circuit}
use Rattle.verdict.specs.Judged.{JudgedAs, ReadAs, of_list}
use Rattle.verdict.specs.Verdicts.{compared, first_faulty, other_wires, second_faulty}
use Rattle.verdict.specs.declared.Refused.{Refused}
use Rattle.verdict.specs.declared.Which.{Which}
use Rattle.verdict.specs.declared.Which.TheVariants.{First, Second}

-- what the text reader replied, and of which text
pub read_as : {t gates gates' : List ℕ} (which : Which) (r : Result Circuit Refusal) (s : Result Circuit Refused)
    → ReadText t gates gates' r → max_list_bytes ≤ length gates
    → MatchResult r (λ c. s ≡ Ok c) (λ refusal. s ≡ Err (record { text = which; refusal = refusal }))
    → ReadAs which (read_text t) gates' s
read_as {t} {gates} {gates'} which (Ok c) s p room e = let d = done_reads t gates gates' c p in rw e (d.says, circuit_left d)
read_as which (Err refusal) s p room e = rw e (fault_said_lem p room refl, refl)

module _ {t u : Text} where
  -- the first text is faulty
  pub first_refused : {x : Refused} → t ≡ faulty (number x.refusal.fault) x.refusal.place → x.text ≡ First → JudgedAs t u (Err x)
  first_refused is of = record { printed = λ w. rw is (first_faulty (rw of at w)) }

  module _ {n : ℕ} {first : List ℕ} (one : t ≡ circuit n first) where
    -- it is a circuit, and the second faulty
    pub second_refused : {x : Refused} → u ≡ faulty (number x.refusal.fault) x.refusal.place → x.text ≡ Second → JudgedAs t u (Err x)
    second_refused is of = record { printed = λ w. rw (one, is) (second_faulty (rw of at w)) }

    module _ {m : ℕ} {second : List ℕ} (other : u ≡ circuit m second) where
      -- both are circuits, on different wires
      pub apart : n ≢ m → JudgedAs t u (Ok None)
      apart ne = record { printed = λ w. rw (one, other, w.0, w.1) (other_wires ne) }

      -- or on the same, and compared
      module _ (same : n ≡ m) where
        pub lists_compared : {x : Compared} → ComparesLists n first second (Ok x) → JudgedAs t u (Ok (Some x))
        lists_compared {x} c =
            record { printed = λ w. rw (one, other, ← same) (compared (record { reply = Ok x; compared = c; prints = w })) }

        pub list_refused : {refusal : Refusal} → ComparesLists n first second (Err refusal) → JudgedAs t u (Err (of_list refusal))
        list_refused {refusal} c =
            record { printed = λ w. rw (one, other, ← same) (compared (record { reply = Err refusal; compared = c; prints = w })) }
