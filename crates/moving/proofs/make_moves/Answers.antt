-- The moves made so far replay from the first marks.
use mathlib.Core.Path.{◌∙◌, refl, sym}
use Prim.Native.Nat.{◌*◌, ◌+◌, ◌≤◌}
use lib.ListN.{length}
use borrow.Author.Rules.{rules}
use native.Mathlib.Omega.{arith}
use Rattle.std.proofs.lemmas.Slice.{put_mid-paste}
use Rattle.carry.proofs.Ways.{sound_on_all}
use Rattle.circuit.proofs.Placing.{paste_placed}
use Rattle.circuit.specs.Limits.{max_wires, move_cells}
use Rattle.moves.proofs.Wires.{cells_wires}
use Rattle.moving.proofs.Making.{cells_long, few_moves, made_more, made_none, move_room, move_smaller, still_marked}
use Rattle.moving.proofs.make_moves.Goals as goal

pub loop-cells-init : goal.loop-cells-init
loop-cells-init c =
    record { first = c.requires.0; room = c.requires.1; made = made_none c.args.wires.count c.args.marks.now c.args.log.now 0 refl }

pub search_by-requires : goal.search_by-requires
search_by-requires c = still_marked c.loop-cells.invariant

pub overflow_mul-at : goal.overflow_mul-at
overflow_mul-at c = record { fits = omega (arith, few_moves c.loop-cells.invariant c.in-Some.ensures) }

pub overflow_add-at : goal.overflow_add-at
overflow_add-at c = record { fits = omega (arith, few_moves c.loop-cells.invariant c.in-Some.ensures) }

pub slice_bounds-copy_from_slice-end : goal.slice_bounds-copy_from_slice-end
slice_bounds-copy_from_slice-end c =
    let room : move_cells * c.loop-cells.count + move_cells ≤ length c.loop-cells.log =
    move_room c.loop-cells.invariant c.in-Some.ensures in
    search rules

pub make_move-requires : goal.make_move-requires
make_move-requires c =
    let m = still_marked c.loop-cells.invariant in
    (sound_on_all m, (cells_wires _ _ max_wires _ _ m.few m.sound _).0 c.in-Some.ensures.legal)

pub loop-cells-smaller : goal.loop-cells-smaller
loop-cells-smaller c = move_smaller c.loop-cells.invariant c.in-Some.ensures c.make_move.ensures

pub loop-cells-preserved : goal.loop-cells-preserved
loop-cells-preserved c =
    let turn = c.loop-cells.invariant in
    let long = cells_long turn c.in-Some.ensures in
    record {
      first = turn.first;
      room = turn.room;
      made =
          made_more turn c.in-Some.ensures refl c.make_move.ensures
          (put_mid-paste _ _ _ _ c.in-Some.cells move_cells c.copy_from_slice.ensures.after (omega arith) (sym long)
          ∙ paste_placed _ _ _ _ (sym long));
    }
