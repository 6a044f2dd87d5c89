-- No row before row i is beyond n: the fault of the rest is that of all.
use mathlib.Core.Path.{◌≡◌}
use lib.ListN.{drop}
use Rattle.written.specs.Faults.{beyond_fault}
use Rattle.synth.proofs.faults.check_beyond.Given as goal

abbrev pub invariant-loop-i : goal.invariant-loop-i
invariant-loop-i l = beyond_fault l.wires.count l.i (drop l.i l.rows) ≡ beyond_fault l.wires.count 0 l.rows
