-- What is found of two texts, apart from the line that is written for it.
use Rattle.std.specs.Prelude.{Err, List, None, Ok, Option, Result, Some, ◌*◌, ◌≡◌, ◌≤◌, ℕ, length}
use Rattle.circuit.specs.Lent.{front_bytes}
use Rattle.circuit.specs.Limits.{gate_bytes}
use Rattle.circuit.specs.Told.{number}
use Rattle.circuit.specs.declared.faults.Refusal.{Refusal}
use Rattle.compare.specs.declared.Compared.{Compared}
use Rattle.text.specs.Text.{Text, circuit, faulty}
use Rattle.text.specs.Written.{refused_line}
use Rattle.text.specs.declared.Circuit.{Circuit}
use Rattle.verdict.specs.Verdicts.{Prints, VerdictOn, at_fault, line_of}
use Rattle.verdict.specs.declared.Refused.{Refused}
use Rattle.verdict.specs.declared.Verdict.{Verdict}
use Rattle.verdict.specs.declared.Which.{Which}

-- one of the texts is t: a circuit whose list stands at the front of the gates, or faulty
abbrev pub ReadAs : Which → (t : Text) → (gates : List ℕ) → Result Circuit Refused → Type 0
ReadAs which t gates (Ok c) = (t ≡ circuit c.wires (front_bytes c.gates gates)) × (gate_bytes * c.gates ≤ length gates)
ReadAs which t gates (Err refused) = (t ≡ faulty (number refused.refusal.fault) refused.refusal.place) × (refused.text ≡ which)

-- a refusal of `compare`, and the list that it is of
abbrev pub of_list : Refusal → Refused
of_list refusal = record { text = at_fault (number refusal.fault); refusal = refusal }

-- what is printed for it: the line of a comparison, or of a refusal; nothing where the wire counts differ
abbrev pub PrintsFound : Result (Option Compared) Refused → (was left : List ℕ) → Option Verdict → Type 0
PrintsFound (Ok None) was left v = (left ≡ was) × (v ≡ None)
PrintsFound (Ok (Some compared)) was left v = Prints (line_of (Ok compared)) None was left v
PrintsFound (Err of_text) was left v =
    Prints (refused_line (number of_text.refusal.fault) of_text.refusal.place) (Some of_text.text) was left v

-- this is found of the texts t and u: whoever prints what is printed for it prints the verdict on t and u
pub record JudgedAs (t u : Text) (found : Result (Option Compared) Refused) : Type 0 where
  pub printed : {was left : List ℕ} {v : Option Verdict} → PrintsFound found was left v → VerdictOn t u was left v
