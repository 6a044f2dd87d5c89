-- How a line on standard error names the stream that failed.
use Rattle.std.specs.Prelude.{List, codes, ℕ}
use Rattle.trim.specs.declared.Failure.{Failure}
use Rattle.trim.specs.declared.Failure.TheVariants.{Reading, Writing}

abbrev pub name_of : Failure → List ℕ
name_of (Reading error) = codes "trim: standard input"
name_of (Writing error) = codes "trim: standard output"
