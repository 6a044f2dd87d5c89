-- The mask so far, as those of its slots are gone through from below that it names.
use Rattle.echelon.proofs.Slots.{MaskTo}
use Rattle.echelon.proofs.Echelon.by_members.Given as goal

abbrev pub invariant-loop-s : goal.invariant-loop-s
invariant-loop-s l = MaskTo l.self.by l.used l.slots
