-- Document 01, "Faults": number 6, of weights and of marks that are lent as an input. A fault's number is that of the table;
-- 0 stands for none.
use Rattle.std.specs.Prelude.{List, [], ◌∷◌, ◌^◌, suc, ℕ, ◌≤◌, eqb, leb, ltb, length}
use Rattle.circuit.specs.Faults.{or_else, table_rule, wires_fault}
use Rattle.circuit.specs.Limits.{max_mark, max_weight, max_wires, parities, table_bytes}
use Rattle.circuit.specs.Read.{either}
use Rattle.circuit.specs.Sound.{SoundMarks}

-- the most that may stand at p: 0 at 0 and from 2^n up, else what the table allows
abbrev pub most_at : ℕ → ℕ → ℕ → ℕ
most_at n most p = either (eqb p 0) 0 (either (ltb p (2 ^ n)) most 0)

-- x stands at p
abbrev pub byte_fault : ℕ → ℕ → ℕ → ℕ → ℕ
byte_fault n most p x = either (leb x (most_at n most p)) 0 table_rule

-- the bytes, the first of which stands at p
unfoldable pub bytes_fault : ℕ → ℕ → ℕ → List ℕ → ℕ
bytes_fault n most p [] = 0
bytes_fault n most p (x ∷ xs) = or_else (byte_fault n most p x) (bytes_fault n most (suc p) xs)

-- a table of that size whose bytes are at most `most`
unfoldable pub table_fault : ℕ → ℕ → ℕ → List ℕ → ℕ
table_fault size n most table = either (eqb (length table) size) (bytes_fault n most 0 table) table_rule

abbrev pub weights_fault : ℕ → List ℕ → ℕ
weights_fault n w = table_fault table_bytes n max_weight w

abbrev pub marks_fault : ℕ → List ℕ → ℕ
marks_fault n marks = table_fault table_bytes n max_mark marks

-- a wire count and marks without faults 1 and 6
pub record Marked (n : ℕ) (marks : List ℕ) : Type 0 where
  pub some : 1 ≤ n
  pub few : n ≤ max_wires
  pub sound : SoundMarks parities n marks

-- the first fault of a call: 1, then 8 of what it lends for an output, then 6 of the weights or marks that it brings
abbrev pub call_fault : ℕ → ℕ → ℕ → ℕ
call_fault n lent table = or_else (wires_fault n) (or_else lent table)
