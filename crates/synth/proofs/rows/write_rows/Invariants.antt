-- The gates of the rows solved are stored, and the masks say what is left.
use Rattle.synth.proofs.RowTurns.{RowLoop}
use Rattle.synth.proofs.rows.write_rows.Given as goal

abbrev pub invariant-loop-row : goal.invariant-loop-row
invariant-loop-row l = RowLoop l.rows l.row-iterator l.initial.to l.to
