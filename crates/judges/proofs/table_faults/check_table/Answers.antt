-- Each test by its law.
use mathlib.Core.Path.{◌∙◌, ◌≡◌}
use native.Mathlib.Omega.{arith}
use borrow.Author.Rules.{rules}
use Rattle.circuit.proofs.TableRule.{other_length}
use Rattle.circuit.specs.Faults.{table_rule}
use Rattle.circuit.specs.Limits.{parities}
use Rattle.circuit.specs.Told.{fault_told}
use Rattle.judges.proofs.LargestBytes.{beyond_wires, first_not_zero, largest_all, largest_from, no_fault, too_large}
use Rattle.judges.proofs.table_faults.check_table.Goals as goal

pub returns-in_err-whole-clause-fault : goal.returns-in_err-whole-clause-fault
returns-in_err-whole-clause-fault c =
    let given : fault_told c.from_residual.result ≡ table_rule = search rules in
    given ∙ other_length parities c.args.n c.args.most c.args.table.now (search rules)

pub returns-then-table-ne0-clause-fault : goal.returns-then-table-ne0-clause-fault
returns-then-table-ne0-clause-fault c =
    first_not_zero parities c.args.n c.args.most c.args.table.now (search rules)

pub returns-then-largest-most-clause-fault : goal.returns-then-largest-most-clause-fault
returns-then-largest-most-clause-fault c =
    too_large parities c.args.n c.args.most c.args.table.now c.largest.ensures (omega arith)

pub returns-then-largest-ne0-clause-fault : goal.returns-then-largest-ne0-clause-fault
returns-then-largest-ne0-clause-fault c =
    beyond_wires parities c.args.n c.args.most c.args.table.now c.parities_on.ensures
    (largest_all (largest_from (search rules) c.largest-2.ensures) (search rules)) (search rules)

pub returns-clause-fault : goal.returns-clause-fault
returns-clause-fault c =
    no_fault parities c.args.n c.args.most c.args.table.now c.parities_on.ensures
    (largest_all (largest_from (search rules) c.largest-2.ensures) (search rules)) (search rules) (search rules)
    (largest_all c.largest.ensures (search rules)) (omega arith) (search rules)
