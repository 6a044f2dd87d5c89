-- The cells of the set of those numbers passed so far that are marked.
use mathlib.Core.Path.{◌∙◌, ◌≡◌, sym}
use native.Mathlib.Omega.{arith}
use Rattle.kernel.proofs.SetsNamed.{count_kept, cut_at, cut_long, list_end, list_none, list_off, list_on, list_room}
use Rattle.kernel.proofs.naming.list.Goals as goal
use Rattle.kernel.proofs.naming.list.Goals.{then-mark-eq1, else-mark-eq1}

pub loop-y-init : goal.loop-y-init
loop-y-init c = list_none c.args.z c.args.set.now

pub bounds-cells-k : goal.bounds-cells-k
bounds-cells-k c =
    let at = cut_at c.requires c.loop-y-test.true in
    omega (arith, c.from-k.ensures, list_room c.requires c.loop-y.invariant at.0 (sym at.1 ∙ c.if-mark-eq1.true))

pub overflow_add-cells-then-mark-eq1 : goal.overflow_add-cells-then-mark-eq1
overflow_add-cells-then-mark-eq1 c =
    let at = cut_at c.requires c.loop-y-test.true in
    record {
      fits =
          omega (
            arith,
            count_kept c.requires c.loop-y.invariant c.from-k.result c.loop-y.y,
            list_room c.requires c.loop-y.invariant at.0 (sym at.1 ∙ c.if-mark-eq1.true),
          );
    }

pub loop-y-preserved : goal.loop-y-preserved
loop-y-preserved c =
    let at = cut_at c.requires c.loop-y-test.true in
    elim c.if-mark-eq1.branch [
      | then-mark-eq1 w ↦
          rw w.cells-is (list_on c.requires c.loop-y.invariant at.0 (sym at.1 ∙ w.if-mark-eq1.true) w.from-k.ensures)
      | else-mark-eq1 w ↦ rw w.cells-is (list_off c.requires c.loop-y.invariant (λ e. w.if-mark-eq1.false (at.1 ∙ e)))
    ]

pub returns : goal.returns
returns c =
    let all : c.loop-y.y ≡ c.args.end = omega (arith, cut_long c.requires) in list_end c.requires (rw all at c.loop-y.invariant)
