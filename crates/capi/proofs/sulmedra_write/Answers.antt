-- The entry's own promise, and its reply as numbers.
use Rattle.capi.proofs.sulmedra_write.Goals as goal

pub returns : goal.returns
returns c =
    let are = c.into.ensures in
    record {
      called = record { reply = c.write.result; promise = c.write.ensures; number_is = are.0.0; place_is = are.0.1 };
      gates_is = are.1;
    }
