-- Each way out of `write` by its law.
use borrow.Author.Rules.{rules}
use Rattle.synth.proofs.WriteWays.{may_write, write_done, write_refused}
use Rattle.synth.proofs.write.Goals as goal

pub returns-in_err-wires : goal.returns-in_err-wires
returns-in_err-wires c = write_refused _ _ _ _ _ c.in_err-wires.field-0.0 (search rules) c.in_err-wires.ensures.fault

pub write_sound-requires : goal.write_sound-requires
write_sound-requires c = may_write _ _ _ c.args.gates.now c.in_ok-wires.ensures.fault c.in_ok-wires.ensures.same

pub returns : goal.returns
returns c = write_done _ _ _ _ c.in_ok-wires.ensures.fault c.in_ok-wires.ensures.same c.write_sound.ensures
