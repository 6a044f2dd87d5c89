-- A reply in document 01's numbers, and what a lent buffer holds after it.
use Rattle.std.specs.Prelude.{List, suc, zero, ℕ}

-- done, or refused with the number and the place of the fault
pub data Reply : Type 0 where
  Done : Reply
  Refused : ℕ → ℕ → Reply

-- document 01's number of a reply, 0 for none, and its place
abbrev pub number_of : Reply → ℕ
number_of Done = 0
number_of (Refused number place) = number

abbrev pub place_of : Reply → ℕ
place_of Done = 0
place_of (Refused number place) = place

-- a lent buffer after a reply of that number: what is to be written where there is no fault, else as it was
abbrev pub after : ℕ → List ℕ → List ℕ → List ℕ
after zero written was = written
after (suc fault) written was = was
