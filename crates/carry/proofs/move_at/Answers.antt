-- Move k is chunk k, where the log has so many.
use mathlib.Core.List.{[]}
use mathlib.Core.Path.{sym, ◌∙◌}
use native.Mathlib.Omega.{arith}
use Rattle.carry.proofs.Chunks.{chunk_at}
use Rattle.circuit.specs.Limits.{move_cells}
use Rattle.moves.proofs.Logs.{move_short, move_whole}
use Rattle.carry.proofs.move_at.Goals as goal

pub returns-in-Some : goal.returns-in-Some
returns-in-Some c =
    let log = c.args.log.now in
    let k = c.args.k in
    let found = c.in-Some.ensures.lookup.3 in
    (rw c.as_chunks.ensures.front at found.1 []) ∙ chunk_at move_cells _ k log [] (omega (arith, found.0, c.as_chunks.ensures.front_len))
    ∙ sym (move_whole move_cells log k (omega (arith, found.0, c.as_chunks.ensures.front_len)))

pub returns-in-None : goal.returns-in-None
returns-in-None c =
    sym (move_short move_cells c.args.log.now c.args.k (omega (arith, c.in-None.ensures.lookup, c.as_chunks.ensures.front_len)))
