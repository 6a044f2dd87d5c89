-- Where no gate is at fault, all are well formed.
use mathlib.Core.Path.{◌∙◌, ◌≡◌, subst, sym}
use Prim.Native.Nat.{ℕ}
use borrow.Author.Rules.{rules}
use Rattle.circuit.proofs.Judging.{done_formed}
use Rattle.circuit.specs.Faults.{AllWellFormed}
use Rattle.circuit.specs.Gate.{gates_of}
use Rattle.circuit.specs.Replies.{Done}
use Rattle.circuit.specs.Told.{told}
use Rattle.judges.proofs.faults.check_list.Goals as goal

pub invariant_of-result : goal.invariant_of-result
invariant_of-result c =
    let none : told c.check_gates.result ≡ Done = search rules in
    let gates = gates_of c.args.list.now in
    record {
      formed =
          subst (λ (n : ℕ). AllWellFormed n gates) (sym c.in_ok-wires.ensures.same)
          (done_formed c.args.n 0 gates (sym c.check_gates.ensures ∙ none));
    }
