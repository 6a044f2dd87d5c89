-- The set has one of a pair, and is mended and listed; or it has none, as may be seen before it is named.
use Rattle.kernel.proofs.SetsNamed.{mended_set}
use Rattle.kernel.proofs.naming.Dependency.move_with.Goals as goal

pub list-requires : goal.list-requires
list-requires c =
    let n = c.name_set-named.ensures in
    mended_set n.named c.in_ok-y.ensures c.args.partners.now.z_is_parity n c.from-end.ensures c.mend.ensures
