-- Document 01, "Text form": what the program `trim` prints for a text.
use Rattle.std.specs.Prelude.{List, ◌++◌, ◌≡◌, ℕ}
use Rattle.circuit.specs.Faults.{first_fault}
use Rattle.circuit.specs.Gate.{Gate, gates_of}
use Rattle.circuit.specs.Replies.{Reply}
use Rattle.circuit.specs.Replies.{Done, Refused}
use Rattle.text.specs.Text.{Text, circuit, faulty}
use Rattle.text.specs.Written.{counts_line, gate_lines, refused_line, wires_line}
use Rattle.trimmed.specs.Trimmed.{Trimmed}
use Rattle.trimmed.specs.declared.Counts.{Counts}
use Rattle.trimmer.specs.Entry.{ChosenFor, WritesFor}

-- n, then T in, odd set size, T out and moves, then the gates
abbrev pub trim_lines : ℕ → Counts → List Gate → List ℕ
trim_lines n counts D = wires_line n ++ counts_line counts.tin counts.odd counts.tout counts.moves ++ gate_lines D

-- the lines of a trim of C: the D and the counts printed have, with some log, all that `Trimmed` says
pub record PrintsTrim (n : ℕ) (C : List Gate) (bytes : List ℕ) : Type 0 where
  pub D : List Gate
  pub log : List ℕ
  pub counts : Counts
  pub trimmed : Trimmed n C D log counts
  -- written as any list is, for the new weights and the rows of C, and by these alone
  pub written : WritesFor n C D
  pub alone : ChosenFor n C D
  pub lines : bytes ≡ trim_lines n counts D

-- what is printed for gates, by their first fault: its line and nothing else, or the lines of a trim
abbrev pub PrintsGates : Reply → ℕ → List Gate → List ℕ → Type 0
PrintsGates Done n C bytes = PrintsTrim n C bytes
PrintsGates (Refused number place) n C bytes = bytes ≡ refused_line number place

-- what is printed for a text, by what it is: the line of its fault, or what its gates give
abbrev pub Prints : Text → List ℕ → Type 0
Prints (faulty number place) bytes = bytes ≡ refused_line number place
Prints (circuit n list) bytes = PrintsGates (first_fault n 0 (gates_of list)) n (gates_of list) bytes
