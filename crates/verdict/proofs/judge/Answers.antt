-- Each way out of `judge` by its law.
use native.Mathlib.Omega.{arith}
use borrow.Author.Rules.{rules}
use mathlib.Core.Path.{◌≡◌}
use Rattle.std.specs.Prelude.{Err}
use Rattle.verdict.specs.Judged.{of_list}
use Rattle.verdict.proofs.VerdictWays.{apart, first_refused, list_refused, lists_compared, second_refused}
use Rattle.verdict.proofs.judge.Goals as goal

pub returns-in_err-a : goal.returns-in_err-a
returns-in_err-a c =
    let is = c.in_err-a.ensures in
    let e : c.from_residual.result ≡ Err c.in_err-a.field-0.0 = search rules in
    rw e (first_refused is.0 is.1)

pub returns-in_err-b : goal.returns-in_err-b
returns-in_err-b c =
    let is = c.in_err-b.ensures in
    let e : c.from_residual-in_err-b.result ≡ Err c.in_err-b.field-0.0 = search rules in
    rw e (second_refused c.in_ok-a.ensures.0 is.0 is.1)

pub returns-then-a-b : goal.returns-then-a-b
returns-then-a-b c = apart c.in_ok-a.ensures.0 c.in_ok-b.ensures.0 (omega arith)

pub returns-in_err-compared : goal.returns-in_err-compared
returns-in_err-compared c =
    let e : c.from_residual-in_err-compared.result ≡ Err (of_list c.in_err-compared.field-0.0) = search rules in
    rw e
    (list_refused c.in_ok-a.ensures.0 c.in_ok-b.ensures.0 (omega arith)
    (rw (c.list.ensures, c.list-2.ensures) at c.in_err-compared.ensures))

pub returns : goal.returns
returns c =
    lists_compared c.in_ok-a.ensures.0 c.in_ok-b.ensures.0 (omega arith) (rw (c.list.ensures, c.list-2.ensures) at c.in_ok-compared.ensures)
