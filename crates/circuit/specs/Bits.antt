-- The bits that a mask names, gone through from below.
use Rattle.std.specs.Prelude.{None, Option, Some, ◌≡◌, ◌+◌, ◌<◌, ℕ}
use Rattle.gf2.specs.Bit.{NextBit}
use Rattle.circuit.specs.declared.bits.BitsOf.{BitsOf}

-- b is the first bit that the mask names, from where those passed end; and it is passed then
pub record Passed (l : BitsOf) (b : ℕ) (l' : BitsOf) : Type 0 where
  pub inside : b < l.end
  pub next : NextBit l.end l.mask l.from b
  pub mask_is : l'.mask ≡ l.mask
  pub end_is : l'.end ≡ l.end
  pub from_is : l'.from ≡ b + 1

-- the mask names none from there on
pub record AllPassed (l l' : BitsOf) : Type 0 where
  pub none : NextBit l.end l.mask l.from l.end
  pub same : l' ≡ l

-- the next bit, or none
abbrev pub NextOf : BitsOf → Option ℕ → BitsOf → Type 0
NextOf l (Some b) l' = Passed l b l'
NextOf l None l' = AllPassed l l'
