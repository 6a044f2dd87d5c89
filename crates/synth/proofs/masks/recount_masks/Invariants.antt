-- The masks are recounted from the front, where they lie.
use Rattle.synth.proofs.RowTurns.{Recounted}
use Rattle.synth.proofs.masks.recount_masks.Given as goal

abbrev pub invariant-loop-m : goal.invariant-loop-m
invariant-loop-m l = Recounted l.t l.q l.initial.masks l.masks l.m-index
