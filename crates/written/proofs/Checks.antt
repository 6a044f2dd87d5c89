-- The checks of a call that writes: no fault exactly where everything is sound and there is room; and one law for each way that
-- `synth::faults::check_write` takes through them.
use mathlib.Core.List.{List}
use mathlib.Core.Logic.{◌≢◌}
use mathlib.Core.Path.{ap, sym, ◌∙◌, ◌≡◌}
use Prim.Native.Nat.{◌*◌, ◌^◌, ℕ, ◌≤◌}
use native.Mathlib.Nat.{mul-le-mul}
use native.Mathlib.Omega.{arith}
use lib.Pow.{pow_mono}
use Rattle.circuit.proofs.Judging.{or_first, or_pass, or_second, or_well, short_pass, short_well}
use Rattle.circuit.proofs.TableRule.{weights_passes}
use Rattle.circuit.specs.Faults.{or_else, short_fault}
use Rattle.circuit.specs.Limits.{max_wires, max_written_gates, row_cells, write_bytes, written_gates}
use Rattle.circuit.specs.TableFaults.{call_fault, weights_fault}
use Rattle.written.proofs.RowRule.{rows_sound}
use Rattle.written.specs.Faults.{Writable, rows_fault, write_fault}

-- a written list for n wires is no longer than the longest
pub longest : (n : ℕ) → n ≤ max_wires → written_gates n ≤ max_written_gates
longest n h =
    let p : 2 ^ n ≤ 2 ^ max_wires = pow_mono {i = n} {j = max_wires} h in
    let a : n * 2 ^ n ≤ max_wires * 2 ^ max_wires = mul-le-mul {n₁ = n} {m₁ = 2 ^ n} {n₂ = max_wires} {m₂ = 2 ^ max_wires} h p in
    let b : n * n ≤ max_wires * max_wires = mul-le-mul {n₁ = n} {m₁ = n} {n₂ = max_wires} {m₂ = max_wires} h h in
    omega arith

-- ---- the checks

-- 1, 8 and 6 of a call
abbrev call_part : ℕ → List ℕ → ℕ → ℕ
call_part n w gates = call_fault n (short_fault gates write_bytes) (weights_fault n w)

module _ (n : ℕ) (w rows : List ℕ) (gates : ℕ) where
  -- what the function finds of what is lent, and of the call with it
  module _ (lent f : ℕ) (el : lent ≡ short_fault gates write_bytes) (ef : f ≡ call_fault n lent (weights_fault n w)) where
    e : f ≡ call_part n w gates
    e = ef ∙ ap (λ (x : ℕ). call_fault n x (weights_fault n w)) el

    pub call_refuses : f ≢ 0 → f ≡ write_fault n w rows gates
    unfolding write_fault
    call_refuses h = or_first f (rows_fault row_cells n rows) h ∙ ap (λ (x : ℕ). or_else x (rows_fault row_cells n rows)) e

    pub rows_decide : f ≡ 0 → rows_fault row_cells n rows ≡ write_fault n w rows gates
    unfolding write_fault
    rows_decide z = or_second (call_part n w gates) (rows_fault row_cells n rows) (sym e ∙ z)

  pub fault_ready : write_fault n w rows gates ≡ 0 → Writable n w rows gates
  unfolding write_fault
  fault_ready e =
      let a = or_pass (call_part n w gates) (rows_fault row_cells n rows) e in
      let b = (weights_passes n (short_fault gates write_bytes) w).0 a.0 in
      record {
        some = b.0.0;
        few = b.0.1;
        room = short_pass gates write_bytes b.1;
        weights_sound = b.2;
        rows_sound = (rows_sound row_cells n rows).0 a.1;
      }

  pub ready_faultless : Writable n w rows gates → write_fault n w rows gates ≡ 0
  unfolding write_fault
  ready_faultless r =
      or_well (call_part n w gates) (rows_fault row_cells n rows)
      ((weights_passes n (short_fault gates write_bytes) w).1 ((r.some, r.few), short_well gates write_bytes r.room, r.weights_sound))
      ((rows_sound row_cells n rows).1 r.rows_sound)
