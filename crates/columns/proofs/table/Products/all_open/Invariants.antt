-- Of the members passed, each parity that was picked has opened a slot.
use Rattle.columns.proofs.table.Products.all_open.Given as goal
use Rattle.columns.specs.Halves.{Keeps, OpenedTo}
use Rattle.echelon.specs.Columns.{holding}

abbrev pub invariant-loop-y : goal.invariant-loop-y
invariant-loop-y g l = record {
  opened : OpenedTo (goal.F-post g l.pick) l.ys (holding l.initial.slots) l.y-index (holding l.slots);
  keeps : Keeps l.initial.slots l.slots;
}
