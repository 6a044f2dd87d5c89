-- The members of the marks are gathered, and what the scan says of all wires holds of n.
use Rattle.std.proofs.lemmas.Grind.{merely}
use Rattle.finder.proofs.Listing.{gathered_members}
use Rattle.finder.proofs.OnWires.{scanned_searched}
use Rattle.finder.proofs.search_by.Goals as goal

pub invariant_of-search : goal.invariant_of-search
invariant_of-search c =
    let m = c.requires in
    let gathered = rw c.parities.ensures.0 at c.gather-count.ensures.1 in
    record { listed = merely (gathered_members m.few m.sound gathered) }

pub returns : goal.returns
returns c = scanned_searched c.requires.few c.requires.sound _ c.scan.ensures
