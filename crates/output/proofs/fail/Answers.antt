-- The four parts stand one behind the other.
use Rattle.std.proofs.lemmas.Result.{on_ok_weaker}
use Rattle.std.proofs.KnownBytes.{Appends-trans}
use Rattle.output.proofs.fail.Goals as goal

pub returns : goal.returns
returns g c =
    let reason = c.reason_in-reason.result.now in
    let name = c.in_ok-write_all.ensures.whole in
    let colon = c.in_ok-write_all-2.ensures.whole in
    let words = c.in_ok-write_all-3.ensures.whole in
    on_ok_weaker c.write_all-4.result
    (λ last. (reason, Appends-trans _ _ _ _ _ name (Appends-trans _ _ _ _ _ colon (Appends-trans _ _ _ _ _ words last))))
    c.write_all-4.ensures.whole
