-- The entry's own promise, and its reply as numbers.
use Rattle.capi.proofs.sulmedra_trim.Goals as goal

pub returns : goal.returns
returns c =
    let are = c.into.ensures in
    record {
      called = record { reply = c.trim.result; promise = c.trim.ensures; number_is = are.0.0; place_is = are.0.1 };
      tin_is = are.1;
      odd_is = are.2;
      tout_is = are.3;
      moves_is = are.4;
      gates_is = are.5;
    }
