-- The entry's own promise, and its reply as numbers.
use Rattle.capi.proofs.sulmedra_find.Goals as goal

pub returns : goal.returns
returns c =
    let are = c.into.ensures in
    record {
      called = record { reply = c.find.result; promise = c.find.ensures; number_is = are.0.0; place_is = are.0.1 };
      found_is = are.1;
    }
