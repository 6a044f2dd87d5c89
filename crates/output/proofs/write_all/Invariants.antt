-- What has been written is the first part of the bytes, and the others are left; each turn writes some more.
use Rattle.std.proofs.Common.{drop, length, take, ◌≡◌, ℕ}
use Rattle.std.specs.Io.KnownBytes.{Appends}
use Rattle.output.proofs.write_all.Given as goal

abbrev pub invariant-loop-rest : goal.invariant-loop-rest
invariant-loop-rest g l =
    (done : ℕ) × (l.rest ≡ drop done l.bytes) × Appends (g.W.Write.contents l.initial.to) (g.W.Write.contents l.to) (take done l.bytes)

abbrev pub decreases-loop-rest : goal.decreases-loop-rest
decreases-loop-rest g l = length l.rest
