-- The gate lines passed have the form: the first fault of the rest is that of all.
use Rattle.std.specs.Iterator.Adapters.{enumerate_count, enumerate_source}
use Rattle.std.specs.Slice.Iter.{chunks_rest, chunks_size}
use Rattle.text.proofs.TextFaults.{PassedTo}
use Rattle.text.proofs.reading.check_gate_lines.Given as goal

abbrev pub invariant-loop-i : goal.invariant-loop-i
invariant-loop-i l =
    let left = enumerate_source l.i-iterator in
    PassedTo l.lines (chunks_size left) (enumerate_count l.i-iterator) (chunks_rest left)
