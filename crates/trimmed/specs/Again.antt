-- Document 02, 2.2: "trimming D again makes no move, reports the same T count, and gives weights and rows equal to D's".
use Rattle.std.specs.Prelude.{List, ◌≡◌, ℕ}
use Rattle.circuit.specs.Gate.{Gate}
use Rattle.circuit.specs.Limits.{max_wires}
use Rattle.circuit.specs.Read.{read}
use Rattle.trimmed.specs.declared.Counts.{Counts}

-- a trim has written D and reported `first`; a trim of D has written E and reported `again`
pub record TrimmedAgain (n : ℕ) (D E : List Gate) (first again : Counts) : Type 0 where
  -- it makes no move
  pub no_move : again.moves ≡ 0
  -- it reports the same T count: T gates in, odd set size and T gates out are the T gates out of the first
  pub t_in : again.tin ≡ first.tout
  pub odd_size : again.odd ≡ first.tout
  pub t_out : again.tout ≡ first.tout
  -- reading E gives exactly the weights and rows that reading D gives
  pub reads : read max_wires n E ≡ read max_wires n D
