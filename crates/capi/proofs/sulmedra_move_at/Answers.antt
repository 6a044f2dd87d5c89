-- A part is whole or empty.
use mathlib.Core.List.{List, []}
use mathlib.Core.Path.{◌∙◌, ◌≡◌, ap, sym}
use Prim.Native.Nat.{◌*◌, ◌+◌, ◌<◌, ◌≤◌, ℕ}
use native.Mathlib.Decide.{dec_le}
use native.Mathlib.Omega.{arith}
use lib.ListN.{drop, length, length-drop, take}
use lib.Seq.{length-take-le}
use borrow.Author.Tests.{le-leb, lt-leb}
use Rattle.carry.proofs.Laws.{part_short, part_whole}
use Rattle.circuit.specs.Limits.{move_cells}
use Rattle.moves.specs.Log.{move_at}
use Rattle.capi.specs.InC.{MoveInC}
use Rattle.capi.proofs.sulmedra_move_at.Goals as goal

-- the part of move k, whole or empty
data Part (log : List ℕ) (k : ℕ) : List ℕ → Type 0 where
  whole : {part : List ℕ} → move_cells * k + move_cells ≤ length log → length part ≡ move_cells
      → part ≡ take move_cells (drop (move_cells * k) log) → Part log k part
  empty : length log < move_cells * k + move_cells → Part log k []

part_at : (log : List ℕ) (k : ℕ) → Part log k (move_at move_cells log k)
part_at log k = go (dec_le (move_cells * k + move_cells) (length log))
  where
    go : Dec (move_cells * k + move_cells ≤ length log) → Part log k (move_at move_cells log k)
    go (yes h) =
        let e = part_whole log k h in
        whole h (ap length e ∙ length-take-le move_cells (drop (move_cells * k) log) (omega (arith, length-drop (move_cells * k) log))) e
    go (no h) = rw (part_short log k (omega arith)) (empty (omega arith))

within : {log part : List ℕ} {k : ℕ} → Part log k part → k * length part ≤ length log
within (whole h long is) = rw long (omega arith)
within (empty h) = omega arith

in_c : {log part : List ℕ} {k : ℕ} → Part log k part → part ≡ move_at move_cells log k → MoveInC log k (k * length part) (length part)
in_c {log} {part} {k} (whole h long is) e =
    let start : k * length part ≡ move_cells * k = rw long (omega arith) in
    record {
      starts = simp (le-leb (move_cells * k + move_cells) (length log) h) start;
      lasts = ap length e;
      is = rw (start, long) (sym is ∙ e);
    }
in_c {log} {part} {k} (empty h) e =
    record {
      starts = simp (lt-leb (move_cells * k + move_cells) (length log) h) (omega arith);
      lasts = ap length e;
      is = e;
    }

pub overflow_mul-result : goal.overflow_mul-result
overflow_mul-result c =
    let h = rw (sym c.move_at-length.ensures) at (within (part_at c.args.log.now c.args.k)) in
    record { fits = omega arith }

pub returns : goal.returns
returns c = let e = c.move_at-length.ensures in in_c (rw (sym e) at (part_at c.args.log.now c.args.k)) e
