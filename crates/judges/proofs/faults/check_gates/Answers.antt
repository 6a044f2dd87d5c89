-- No gate before has a fault: the first fault of the rest is that of the list.
use mathlib.Core.List.{[], ◌∷◌, List, map}
use mathlib.Core.Path.{◌∙◌, ◌≡◌, ap, sym}
use Prim.Native.Nat.{◌+◌, ◌<◌, ℕ}
use native.Mathlib.Omega.{arith}
use borrow.Author.Rules.{rules}
use lib.ListN.{drop, drop_of_length-le, get_or, length}
use Rattle.std.proofs.lemmas.List.{at_drop_more}
use Rattle.circuit.proofs.Results.{numbered}
use Rattle.circuit.proofs.Steps.{fault_here, fault_later, no_fault}
use Rattle.circuit.specs.Faults.{first_fault}
use Rattle.circuit.specs.Gate.{Gate, gate_of}
use Rattle.circuit.specs.Replies.{Refused}
use Rattle.circuit.specs.Told.{fault_told, number, told}
use Rattle.judges.proofs.faults.check_gates.Goals as goal

-- the gate at this place, and those after it
turn : (n i : ℕ) (items : List (List ℕ)) (all : List Gate) → i < length items
    → first_fault n i (map gate_of (drop i items)) ≡ first_fault n 0 all
    → first_fault n i (gate_of (get_or items i []) ∷ map gate_of (drop (i + 1) items)) ≡ first_fault n 0 all
turn n i items all inside e =
    sym (at_drop_more (λ (rest : List (List ℕ)). first_fault n i (map gate_of rest)) items i [] inside) ∙ e

pub returns-in_err-map_err : goal.returns-in_err-map_err
returns-in_err-map_err c =
    let n = c.args.n in
    let i = c.loop-place.place-counter in
    let refusal = c.in_err-map_err.field-0.0 in
    let given : told c.from_residual.result ≡ Refused (number refusal.fault) refusal.place = search rules in
    let found : number refusal.fault ≡ fault_told c.check_gate.result = search rules in
    let here : refusal.place ≡ i = search rules in
    given ∙ ap (Refused (number refusal.fault)) here
    ∙ fault_here n i (number refusal.fault) _ _ (found ∙ c.check_gate.ensures) (numbered refusal.fault)
    ∙ turn n i c.gates-kind-items.result.now _ c.loop-place-test.true c.loop-place.invariant.1

pub loop-place-preserved : goal.loop-place-preserved
loop-place-preserved c =
    let i = c.loop-place.place-counter in
    let none : fault_told c.check_gate.result ≡ 0 = search rules in (
      c.loop-place.invariant.0,
      fault_later c.args.n i (fault_told c.check_gate.result) _ _ c.check_gate.ensures none
          ∙ turn c.args.n i c.gates-kind-items.result.now _ c.loop-place-test.true c.loop-place.invariant.1,
    )

pub returns : goal.returns
returns c =
    no_fault c.args.n c.loop-place.place-counter _ (ap (map gate_of) (drop_of_length-le c.gates-kind-items.result.now (omega arith)))
    ∙ c.loop-place.invariant.1
