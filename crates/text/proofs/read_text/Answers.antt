-- Each way out of `read_text` by its law.
use mathlib.Core.Path.{◌≡◌}
use borrow.Author.Rules.{rules}
use Rattle.std.specs.Prelude.{Err}
use Rattle.text.proofs.TextWays.{may_store, text_read, text_refused}
use Rattle.text.proofs.read_text.Goals as goal

pub returns-in_err-wires : goal.returns-in_err-wires
returns-in_err-wires c =
    let e : c.from_residual.result ≡ Err c.in_err-wires.field-0.0 = search rules in
    rw e (text_refused _ _ c.in_err-wires.ensures.reply)

pub store_gates-gates-requires : goal.store_gates-gates-requires
store_gates-gates-requires c =
    may_store c.args.text.now c.args.gates.now c.in_ok-wires.ensures.reply

pub returns : goal.returns
returns c =
    text_read _ _ c.in_ok-wires.ensures.reply c.in_ok-wires.ensures.same c.store_gates-gates.ensures
