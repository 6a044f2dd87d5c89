-- The front of the output that is lent holds the bytes then.
use Rattle.lines.proofs.Writing.{front_written}
use Rattle.lines.proofs.put.Goals as goal

pub returns : goal.returns
returns c = front_written c.args.out.now _ c.args.bytes.now c.copy_from_slice.ensures.after
