-- Each gate by its kind.
use mathlib.Core.List.{[]}
use mathlib.Core.Path.{ap, subst, sym, ◌≡◌}
use native.Mathlib.Omega.{arith}
use borrow.Author.Rules.{rules}
use lib.ListN.{get_or}
use Rattle.circuit.proofs.Sound.{start_sound}
use Rattle.circuit.specs.Gate.{Cnot, Phase, gates_of, kind_of}
use Rattle.circuit.specs.Lent.{reading_lent}
use Rattle.circuit.specs.Limits.{max_wires}
use Rattle.circuit.specs.Read.{Reading, no_weights, read_from}
use Rattle.circuit.specs.Sound.{SoundReading}
use Rattle.reader.proofs.Turns.{cnot_on, next_gate, phase_fits, phase_on, reads_end}
use Rattle.reader.proofs.reading.read_gates.Goals.{in-None, in-Some}
use Rattle.reader.proofs.reading.read_gates.Goals as goal

pub loop-kind-init : goal.loop-kind-init
unfolding no_weights
loop-kind-init c =
    let n = c.args.list.now.wires.count in
    let e = ap (reading_lent (no_weights max_wires)) c.first_rows-rows.ensures in
    record {
      few = omega arith;
      to = record {
        formed = rw c.gates-kind-items.ensures c.args.list.now.formed;
        sound = subst (λ (x : Reading). SoundReading max_wires n x) (sym e) (start_sound max_wires n c.args.list.now.wires.few);
        gives = rw c.gates-kind-items.ensures (ap (read_from (gates_of c.args.list.now.gates.now)) e);
        counted = rw c.gates-kind-items.ensures (omega arith);
      };
    }

pub add_phase-requires : goal.add_phase-requires
add_phase-requires c =
    let items = c.gates-kind-items.result.now in
    let i = c.loop-kind.kind-index in
    let here = next_gate items i c.loop-kind-test.true c.loop-kind.invariant.to in
    let is : Phase c.in-Some.v ≡ kind_of (get_or (get_or items i []) 0 0) = search rules in
    let fits = rw (← c.from.ensures) at (phase_fits c.args.list.now.wires.few here c.in-Some.v is) in
    record { inside = fits.0; small = fits.1; phase = fits.2 }

pub loop-kind-preserved : goal.loop-kind-preserved
loop-kind-preserved c =
    let items = c.gates-kind-items.result.now in
    let i = c.loop-kind.kind-index in
    let here = next_gate items i c.loop-kind-test.true c.loop-kind.invariant.to in
    elim c.match-and_then.branch [
      | in-None w ↦
          let is : Cnot ≡ kind_of (get_or (get_or items i []) 0 0) = search rules in
          rw (w.weights-is, w.rows-is, w.tcount-is)
          (record { few = omega arith; to = cnot_on c.args.list.now.wires.few here is w.join_rows.ensures })
      | in-Some w ↦
          let v = w.in-Some.v in
          let is : Phase v ≡ kind_of (get_or (get_or items i []) 0 0) = search rules in
          let added = rw w.from.ensures at w.add_phase.ensures in
          rw (w.weights-is, w.rows-is, w.tcount-is)
          (record { few = omega arith; to = phase_on c.args.list.now.wires.few here v is added (omega arith) })
    ]

pub returns : goal.returns
returns c =
    let end = reads_end c.gates-kind-items.result.now c.loop-kind.kind-index (omega arith) c.loop-kind.invariant.to in
    record { reads = end.0; t_counted = end.1 }
