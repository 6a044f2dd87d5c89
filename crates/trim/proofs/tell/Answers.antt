-- The name is that of the stream that failed.
use Rattle.trim.proofs.tell.Goals as goal

pub returns-in-Reading : goal.returns-in-Reading
returns-in-Reading g c = rw c.in-Reading.is c.fail.ensures

pub returns-in-Writing : goal.returns-in-Writing
returns-in-Writing g c = rw c.in-Writing.is c.fail-in-Writing.ensures
