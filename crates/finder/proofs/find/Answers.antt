-- With no fault the wires are those and the marks sound, and the search says what the call does.
use Rattle.finder.proofs.FindWays.{find_nothing, may_search}
use Rattle.finder.proofs.find.Goals as goal

pub search_by-requires : goal.search_by-requires
search_by-requires c =
    let ok = c.in_ok-wires.ensures in
    rw (ok.same.0, ok.same.1)
    (may_search c.args.n c.args.marks.now c.args.cells.now c.check_lent-lent.ensures ok.fault)

pub returns-in-None : goal.returns-in-None
returns-in-None c =
    let ok = c.in_ok-wires.ensures in
    find_nothing c.args.n c.args.marks.now c.args.cells.now c.check_lent-lent.ensures ok.fault
    (rw (ok.same.0, ok.same.1) at c.in-None.ensures)
