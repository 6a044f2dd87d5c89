-- Where no fault is found, what is lent has its length.
use mathlib.Core.Path.{◌≡◌}
use borrow.Author.Rules.{rules}
use lib.ListN.{length}
use Rattle.circuit.specs.Replies.{Done}
use Rattle.reader.proofs.Laws.{read_is_accepted}
use Rattle.reader.specs.Entry.{read_reply}
use Rattle.reader.proofs.read.Goals as goal

pub put_reading-requires : goal.put_reading-requires
put_reading-requires c =
    let a = c.args in
    let done : read_reply a.n a.gates.now (length a.weights.now) (length a.rows.now) ≡ Done = search rules in
    let is = read_is_accepted a.n a.gates.now (length a.weights.now) (length a.rows.now) done in
    (is.1, is.2)
