-- A column that was stopped fills the slot where it was.
use mathlib.Core.Path.{refl}
use Rattle.echelon.proofs.Echelon.insert.Goals as goal

pub returns-in-Independent : goal.returns-in-Independent
returns-in-Independent c =
    record {
      slot =
          record {
            s = c.in-Independent.slot;
            left = c.in-Independent.left;
            used = c.in-Independent.used;
            stopped = c.in-Independent.ensures.1;
            vec_is = c.open.ensures.vec_is;
          };
      by_is = refl;
      member_is = refl;
    }
