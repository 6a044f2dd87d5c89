-- The slot is filled, and named.
use Rattle.echelon.proofs.Masks.{filled_held, filled_kept, filled_masked, filled_wider}
use Rattle.echelon.proofs.basis.Slots.open.Goals as goal

pub invariant_of-self : goal.invariant_of-self
invariant_of-self c = record { masked = filled_masked c.args.self.now.masked c.requires.unnamed c.requires.leads }

pub returns : goal.returns
returns c =
    let m = c.args.self.now.masked in
    let r = c.requires in
    record {
      vec_is = filled_held m r.unnamed r.leads;
      wider = filled_wider m r.unnamed r.leads;
      kept = filled_kept m r.unnamed r.leads;
    }
