-- One law for each way out of the entry `write`: the tests that led there give the reply, and the gates are as it says.
use mathlib.Core.List.{◌++◌, List}
use mathlib.Core.Path.{ap, refl, subst, sym, ◌∙◌, ◌≡◌}
use Prim.Native.Nat.{◌*◌, ◌^◌, ℕ}
use native.Mathlib.Omega.{arith}
use lib.ListN.{length, take}
use Rattle.circuit.proofs.Bytes.{gates_of_bytes, length-bytes}
use Rattle.std.specs.Prelude.{Err, Ok, Result}
use Rattle.circuit.proofs.Judging.{refused_not_done}
use Rattle.circuit.proofs.Results.{numbered, refused_keeps}
use Rattle.circuit.proofs.TableRule.{call_done, call_refusal}
use Rattle.circuit.specs.Faults.{Accepted}
use Rattle.circuit.specs.Gate.{Gate, bytes_of, gates_of}
use Rattle.circuit.specs.Lent.{KeptFrom, front_gates, reading_lent}
use Rattle.circuit.specs.Limits.{gate_bytes, max_wires}
use Rattle.circuit.specs.Replies.{Refused}
use Rattle.circuit.specs.Told.{number, told}
use Rattle.circuit.specs.declared.faults.Fault.{Fault}
use Rattle.circuit.specs.declared.faults.Refusal.{Refusal}
use Rattle.circuit.specs.declared.wires.Wires.{Wires}
use Rattle.written.proofs.Checks.{fault_ready, longest}
use Rattle.written.proofs.WriteBack.{list_written}
use Rattle.written.specs.Chosen.{chosen_is}
use Rattle.written.specs.Faults.{Writable, write_fault}
use Rattle.written.specs.Writing.{write_phases, write_rows}
use Rattle.written.specs.Wrote.{Wrote}
use Rattle.synth.proofs.Stores.{room_first, room_then, stored_front, stored_kept, stored_then}
use Rattle.synth.specs.Entry.{GatesLeft, WriteList, WroteBytes}
use Rattle.synth.specs.Storing.{PhasesReady, Room, RowsReady, Stored}
use Rattle.synth.specs.declared.storing.Writer.{Writer}

-- ---- the ways out

module _ (n : ℕ) (w rows g : List ℕ) where
  pub write_refused : (r : Result ℕ Refusal) (fault : Fault) → told r ≡ Refused (number fault) 0
      → number fault ≡ write_fault n w rows (length g) → WriteList n w rows g g r
  write_refused (Ok count) fault said judged = absurd (refused_not_done (number fault) 0 (sym said))
  write_refused (Err r) fault said judged =
      record {
        reply = said ∙ call_refusal (number fault) (write_fault n w rows (length g)) judged (numbered fault);
        gates_left = refused_keeps (λ (f : ℕ). GatesLeft f 0 n w rows g g) (λ f. refl) r;
      }

  -- nothing is at fault, and these are the same wires, weights and rows
  module _ (clear : 0 ≡ write_fault n w rows (length g)) {n' : ℕ} {weights' rows' : List ℕ}
      (same : (n' ≡ n) × (weights' ≡ w) × (rows' ≡ rows)) where
    pub may_write : Writable n' weights' rows' (length g)
    may_write = rw (same.0, same.1, same.2) (fault_ready n w rows (length g) (sym clear))

    pub write_done : {g' : List ℕ} {count : ℕ} → WroteBytes n' weights' rows' g g' count → WriteList n w rows g g' (Ok count)
    write_done {g'} {count} d =
        record { reply = call_done 0 (write_fault n w rows (length g)) clear refl; gates_left = rw (same.0, same.1, same.2) at d }

-- ---- the gates stored

-- the writer begins at the first of the lent bytes
module _ (wires : Wires) (weights rows g : List ℕ) (ready : Writable wires.count weights rows (length g)) (to : Writer)
    (on : to.wires ≡ wires) (lent : to.gates.now ≡ g) (first : to.count ≡ 0) where
  abbrev n : ℕ
  n = wires.count

  counts : to.wires.count ≡ n
  counts = ap (λ (w : Wires). w.count) on

  abbrev phases : List Gate
  phases = write_phases max_wires n weights (2 ^ n)

  wrote : Wrote max_wires n (reading_lent weights rows) (phases ++ write_rows n rows)
  wrote = list_written max_wires n ready.few weights rows ready.weights_sound ready.rows_sound

  room : Room to (phases ++ write_rows n rows)
  room = omega (arith, wrote.short, longest n ready.few, ready.room, ap length lent)

  pub phases_ready : PhasesReady to weights
  phases_ready = record { sound = rw counts ready.weights_sound; room = rw counts (room_first to phases (write_rows n rows) room) }

  module _ {to₁ : Writer} (said : Stored to to₁ (write_phases max_wires to.wires.count weights (2 ^ to.wires.count))) where
    a : Stored to to₁ phases
    a = subst (λ (k : ℕ). Stored to to₁ (write_phases max_wires k weights (2 ^ k))) counts said

    still : to₁.wires.count ≡ n
    still = ap (λ (x : Wires). x.count) said.wires ∙ counts

    pub rows_ready : RowsReady to₁ rows
    rows_ready = record { sound = rw still ready.rows_sound; room = rw still (room_then a (write_rows n rows) room) }

    -- `left` is what stands in the lent bytes then
    pub gates_stored : {to₂ : Writer} {left : List ℕ} {count : ℕ} → Stored to₁ to₂ (write_rows to₁.wires.count rows) → left ≡ to₂.gates.now
        → count ≡ to₂.count → WroteBytes n weights rows g left count
    gates_stored {to₂} {left} {count} b e f = rw (e, f) whole
      where
        gs : List Gate
        gs = phases ++ write_rows n rows

        all : Stored to to₂ gs
        all = stored_then a (subst (λ (k : ℕ). Stored to₁ to₂ (write_rows k rows)) still b)

        bytes : take (gate_bytes * to₂.count) to₂.gates.now ≡ bytes_of gs
        bytes = stored_front all first room

        front : front_gates to₂.count to₂.gates.now ≡ gs
        front = ap gates_of bytes ∙ gates_of_bytes gs

        accepted : Accepted n (take (gate_bytes * to₂.count) to₂.gates.now)
        accepted =
            record {
              some = ready.some;
              few = ready.few;
              whole = rw (bytes, length-bytes gs) (omega arith);
              short = rw (bytes, length-bytes gs) (omega (arith, wrote.short, longest n ready.few));
              formed = rw front wrote.formed;
            }

        whole : WroteBytes n weights rows g to₂.gates.now to₂.count
        whole =
            record {
              counted = omega (arith, all.counted, first, ap length front);
              accepted = accepted;
              list = subst (λ (hs : List Gate). Wrote max_wires n (reading_lent weights rows) hs) (sym front) wrote;
              alone = front ∙ sym (chosen_is max_wires n (reading_lent weights rows));
              kept = subst (λ (h : List ℕ). KeptFrom (gate_bytes * to₂.count) h to₂.gates.now) lent (stored_kept all first room);
            }
