-- Each way out of `carry_out` by its law.
use mathlib.Core.Path.{◌≡◌}
use borrow.Author.Rules.{rules}
use Rattle.circuit.proofs.Results.{numbered}
use Rattle.legality.specs.Tested.{SaysLegal}
use Rattle.carry.proofs.Ways.{call_refused, checked, may_carry, move_done, move_refused, sound_on_all, then_lent, then_marks, wires_first}
use Rattle.carry.proofs.carry_out.Goals as goal

pub returns-in_err-check_wires : goal.returns-in_err-check_wires
returns-in_err-check_wires c =
    call_refused _ (wires_first c.args.n c.args.marks.now (numbered _) c.in_err-check_wires.ensures.fault) c.from_residual.ensures.1

pub returns-in_err-marks : goal.returns-in_err-marks
returns-in_err-marks c =
    call_refused _ (then_lent c.args.n c.args.marks.now c.in_ok-check_wires.ensures.fault (search rules) (search rules))
    c.from_residual-in_err-marks.ensures.1

pub returns-in_err-check_table : goal.returns-in_err-check_table
returns-in_err-check_table c =
    let marks = c.in_ok-marks.marks.now in
    let same : marks ≡ c.args.marks.now = search rules in
    let fault = then_marks c.args.n marks c.in_ok-check_wires.ensures.fault (search rules) c.in_err-check_table.ensures.fault in
    rw (← same) (call_refused _ fault c.from_residual-in_err-check_table.ensures.1)

pub legal_move-requires : goal.legal_move-requires
legal_move-requires c =
    let marks = c.in_ok-marks.marks.now in
    (sound_on_all (checked c.args.n marks c.in_ok-check_wires.ensures.fault (search rules) c.in_ok-check_table.ensures.fault)).none

pub returns-in_err-said : goal.returns-in_err-said
returns-in_err-said c =
    let marks = c.in_ok-marks.marks.now in
    let same : marks ≡ c.args.marks.now = search rules in
    let marked = checked c.args.n marks c.in_ok-check_wires.ensures.fault (search rules) c.in_ok-check_table.ensures.fault in
    rw (← same) (move_refused marked _ (search rules) (search rules) c.from_residual-in_err-said.ensures.1)

pub carry-requires : goal.carry-requires
carry-requires c =
    let marks = c.in_ok-marks.marks.now in
    let marked = checked c.args.n marks c.in_ok-check_wires.ensures.fault (search rules) c.in_ok-check_table.ensures.fault in
    let says : SaysLegal marks c.args.cells.now c.in_ok-said.said.z c.in_ok-said.said.ys.now = search rules in
    may_carry says.legal (sound_on_all marked) says.z_is says.set_is

pub returns : goal.returns
returns c =
    let marks = c.in_ok-marks.marks.now in
    let same : marks ≡ c.args.marks.now = search rules in
    let marked = checked c.args.n marks c.in_ok-check_wires.ensures.fault (search rules) c.in_ok-check_table.ensures.fault in
    let says : SaysLegal marks c.args.cells.now c.in_ok-said.said.z c.in_ok-said.said.ys.now = search rules in
    rw (← same) (move_done marked says.legal says.z_is says.set_is c.carry.ensures)
