-- Document 01 leaves free which CNOTs are used and in which order parities are written: many lists may be written for the same weights and
-- rows (Wrote). This library has chosen one of them for each n, weights and rows. What stands behind the name is shut, so that a promise
-- which cites it says just this: the list depends on n, the weights and the rows alone, and equal ones give equal lists.
use Rattle.std.specs.Prelude.{List, ◌≡◌, refl, ℕ}
use Rattle.circuit.specs.Gate.{Gate}
use Rattle.circuit.specs.Read.{Reading}
use Rattle.written.specs.Writing.{write_list}

-- the list written for a reading on n wires, of N at most
pub chosen : ℕ → ℕ → Reading → List Gate
chosen N n r = write_list N n r.weights r.rows

-- for the proof of the function that writes, and for nothing else
pub chosen_is : (N n : ℕ) (r : Reading) → chosen N n r ≡ write_list N n r.weights r.rows
unfolding chosen
chosen_is N n r = refl
