-- As many as a table has, or 2^n.
use mathlib.Core.Path.{◌∙◌}
use native.Mathlib.Omega.{arith}
use Rattle.circuit.proofs.Steps.{shifted}
use Rattle.circuit.specs.Limits.{max_wires}
use Rattle.judges.proofs.LargestBytes.{pow_min}
use Rattle.judges.proofs.table_faults.parities_on.Goals as goal

pub returns : goal.returns
returns c =
    shifted 64 c.min.result (omega (arith, c.min.ensures)) ∙ pow_min c.min.result c.args.n max_wires c.min.ensures
