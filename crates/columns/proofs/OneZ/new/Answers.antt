-- The highest wire of z is one, since z is a parity.
use mathlib.Core.Path.{◌≡◌}
use native.Mathlib.Omega.{arith}
use borrow.Author.Rules.{rules}
use Rattle.circuit.specs.Limits.{max_wires}
use Rattle.gf2.proofs.Leading.{bit-inside, bit-top}
use Rattle.columns.proofs.OneZ.new.Goals as goal

pub invariant_of-result : goal.invariant_of-result
invariant_of-result c =
    let same : c.from.result ≡ c.args.z = search rules in
    let l = rw same at c.leading.ensures in
    let named = bit-top c.leading.result c.args.z l.lo l.hi in
    let inside = bit-inside max_wires c.args.z c.leading.result c.requires.1 named in
    record { in_range = (omega (arith, inside), c.requires.1) }
