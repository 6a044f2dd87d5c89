-- Each list has at each place what its closure gives for it.
use native.Mathlib.Omega.{arith}
use borrow.Author.Rules.{rules}
use Rattle.circuit.specs.Limits.{max_wires}
use Rattle.weights.proofs.Places.{list_filled}
use Rattle.weights.specs.Lists.{One, Three, Two}
use Rattle.weights.proofs.lists.put_lists.Goals as goal

pub returns : goal.returns
returns c =
    let n = c.args.n in
    let w = c.args.w.now in
    record {
      l_is =
          list_filled max_wires n w One c.put_list.new.list (omega arith)
          (λ p h. let e = c.put_list.ensures p (omega arith) in search (rules, e));
      q_is =
          list_filled max_wires n w Two c.put_list-2.new.list (omega arith)
          (λ p h. let e = c.put_list-2.ensures p (omega arith) in search (rules, e));
      c_is =
          list_filled max_wires n w Three c.put_list-3.new.list (omega arith)
          (λ p h. let e = c.put_list-3.ensures p (omega arith) in search (rules, e));
    }
