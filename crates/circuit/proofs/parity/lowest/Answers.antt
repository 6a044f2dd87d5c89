-- The count of trailing zeros, in a word of 64 bits.
use mathlib.Core.Path.{◌≡◌}
use native.Mathlib.Omega.{arith}
use lib.Count.{trailing_le}
use borrow.Author.Rules.{rules}
use Rattle.gf2.proofs.Leading.{lowest_set}
use Rattle.circuit.proofs.Widths.{trailing_in}
use Rattle.circuit.specs.Limits.{max_wires}
use Rattle.circuit.proofs.parity.lowest.Goals as goal

pub overflow_cast-result : goal.overflow_cast-result
overflow_cast-result c = search (rules, trailing_le 64 c.from.result)

pub returns : goal.returns
returns c =
    let p = c.args.p in
    let same : c.from.result ≡ p = search rules in
    rw same (
      trailing_in 64 max_wires p (omega arith) c.requires.0 c.requires.1,
      (lowest_set 64 max_wires p (omega arith) c.requires.0 c.requires.1).0,
    )
