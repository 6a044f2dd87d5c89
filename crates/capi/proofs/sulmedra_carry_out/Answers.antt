-- The entry's own promise, and its reply as numbers.
use Rattle.capi.proofs.sulmedra_carry_out.Goals as goal

pub returns : goal.returns
returns c =
    let are = c.into.ensures in
    record {
      called = record { reply = c.carry_out.result; promise = c.carry_out.ensures; number_is = are.0.0; place_is = are.0.1 };
      differ_is = are.1;
    }
