-- Each step leaves what the next one needs, and `finish` puts them together.
use mathlib.Core.Path.{refl}
use Rattle.trimmer.proofs.Finish.{finish, marked_c, marked_first, marked_last, moved_c, read_c, sound_weights, weighed_c, writable}
use Rattle.trimmer.proofs.trim_accepted.Goals as goal

pub members_of-odd-requires : goal.members_of-odd-requires
members_of-odd-requires c =
    let read = read_c c.args.list.now c.requires c.read_gates-tin.ensures.reads in
    marked_first (marked_c read c.put_odd_set.ensures)

pub make_moves-moves-requires : goal.make_moves-moves-requires
make_moves-moves-requires c =
    let read = read_c c.args.list.now c.requires c.read_gates-tin.ensures.reads in
    (marked_first (marked_c read c.put_odd_set.ensures), c.requires.log_room)

pub members_of-tout-requires : goal.members_of-tout-requires
members_of-tout-requires c =
    let read = read_c c.args.list.now c.requires c.read_gates-tin.ensures.reads in
    marked_last (moved_c (marked_c read c.put_odd_set.ensures) c.make_moves-moves.ensures)

pub put_new_weights-requires : goal.put_new_weights-requires
put_new_weights-requires c =
    let read = read_c c.args.list.now c.requires c.read_gates-tin.ensures.reads in
    let last = marked_last (moved_c (marked_c read c.put_odd_set.ensures) c.make_moves-moves.ensures) in
    (sound_weights read, last.sound)

pub write_sound-gates-requires : goal.write_sound-gates-requires
write_sound-gates-requires c =
    let read = read_c c.args.list.now c.requires c.read_gates-tin.ensures.reads in
    writable (weighed_c (moved_c (marked_c read c.put_odd_set.ensures) c.make_moves-moves.ensures) c.put_new_weights.ensures)

pub returns : goal.returns
returns c =
    let read = read_c c.args.list.now c.requires c.read_gates-tin.ensures.reads in
    finish (weighed_c (moved_c (marked_c read c.put_odd_set.ensures) c.make_moves-moves.ensures) c.put_new_weights.ensures)
    c.write_sound-gates.ensures _ c.read_gates-tin.ensures.t_counted c.members_of-odd.ensures c.members_of-tout.ensures refl refl
