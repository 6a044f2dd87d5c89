-- Of the members passed, each parity that was picked has opened a slot.
use native.Mathlib.Numerals.{add-one}
use Rattle.columns.proofs.Apart.{keeps_all, keeps_more}
use Rattle.columns.specs.Halves.{opened, passed, start}
use Rattle.columns.proofs.table.Products.all_open.Goals as goal
use Rattle.columns.proofs.table.Products.all_open.Goals.{in-Some+else-not-grow, in_default}

pub loop-y-init : goal.loop-y-init
loop-y-init g c = record { opened = start; keeps = keeps_all }

pub loop-y-preserved : goal.loop-y-preserved
loop-y-preserved g c =
    elim c.match-pick.branch [
      | in-Some+else-not-grow w ↦
          rw (w.slots-is, add-one c.loop-y.y-index) (record {
            opened =
                opened c.loop-y.invariant.opened (w.in-Some.ensures) w.entry.ensures
                (w.grow.ensures.opens w.if-not-grow.false);
            keeps = keeps_more c.loop-y.invariant.keeps w.grow.ensures;
          })
      | in_default w ↦
          rw (w.slots-is, add-one c.loop-y.y-index) (record {
            opened = passed c.loop-y.invariant.opened (w.in_default.ensures);
            keeps = c.loop-y.invariant.keeps;
          })
    ]
