-- The entry's own promise, and its reply as numbers.
use Rattle.capi.proofs.sulmedra_read_text.Goals as goal

pub returns : goal.returns
returns c =
    let are = c.into.ensures in
    record {
      called = record { reply = c.read_text.result; promise = c.read_text.ensures; number_is = are.0.0; place_is = are.0.1 };
      wires_is = are.1;
      gates_is = are.2;
    }
