-- What is written for sound weights and rows: it reads back exactly, spells each weight, and has at most n * 2^n + n * n gates.
-- Over n and N.
use mathlib.Core.List.{List, append-nil}
use mathlib.Core.Logic.{◌≢◌}
use mathlib.Core.Path.{ap, ap₂, refl, sym, ◌∙◌, ◌≡◌}
use Prim.Native.Nat.{◌+◌, ◌^◌, ℕ, ◌≤◌}
use native.Mathlib.Nat.{le_refl}
use native.Mathlib.Omega.{arith}
use lib.ListN.{get_or, length, length-append}
use lib.Pow.{pow_mono}
use Rattle.circuit.proofs.OddSet.{length-odd, members_sum, odd_bits, odd_mark}
use Rattle.circuit.proofs.Sound.{read_append, start_sound}
use Rattle.circuit.specs.Faults.{AllWellFormed}
use Rattle.circuit.specs.Gate.{Gate, T, T_DAGGER, Z, kind_of, t_gates}
use Rattle.circuit.specs.Lent.{reading_lent}
use Rattle.circuit.specs.Limits.{written_gates}
use Rattle.circuit.specs.OddSet.{member_count, odd_set}
use Rattle.circuit.specs.Read.{first_rows, read, read_from, start, with_weights}
use Rattle.circuit.specs.Sound.{SoundRows, SoundWeights, weight}
use Rattle.gf2.proofs.Pairing.{sum-stop}
use Rattle.gf2.proofs.Sum.{sum-add, sum-ext, sum-zero}
use Rattle.gf2.specs.Sum.{sum}
use Rattle.written.proofs.AllParities.{formed_phases, kinds_phases, length-phases, phases_read_back, phases_together}
use Rattle.written.proofs.KindCounts.{kinds_total, t_by_kind}
use Rattle.written.proofs.Lists.{formed_append, kinds_append, together_first}
use Rattle.written.proofs.RowsWritten.{Brings, kinds_rows, rows_written}
use Rattle.written.proofs.Spelled.{occurs-none, right}
use Rattle.written.specs.Wrote.{Wrote}
use Rattle.written.specs.Spelling.{Together, gates_of_kind, kinds_at, occurs, spelled_gates, spelling}
use Rattle.written.specs.Writing.{write_list, write_phases, write_rows}
use Rattle.circuit.specs.Gate.{Phase}

module _ (N n : ℕ) (fit : n ≤ N) (w rows : List ℕ) (sw : SoundWeights (2 ^ N) n w) (sr : SoundRows N n rows) where
  gs : List Gate
  gs = write_list N n w rows

  bring : Brings n n (first_rows N n) rows (write_rows n rows)
  bring = rows_written N n fit rows sr

  formed : AllWellFormed n gs
  unfolding gs
  formed =
      formed_append n (write_phases N n w (2 ^ n)) (write_rows n rows) (formed_phases N n fit w sw (2 ^ n) (le_refl (2 ^ n))) bring.formed

  reads : read N n gs ≡ reading_lent w rows
  unfolding gs
  reads =
      read_append (write_phases N n w (2 ^ n)) (write_rows n rows) (start N n)
      ∙ ap (read_from (write_rows n rows)) (phases_read_back N n fit w sw) ∙ bring.reads (with_weights w (start N n)) refl

  short : length gs ≤ written_gates n
  unfolding gs
  short = omega (arith, length-append (write_phases N n w (2 ^ n)) (write_rows n rows), length-phases N n fit w sw, bring.short)

  spelled : (p : ℕ) → kinds_at p gs (start N n) ≡ spelling (weight w p)
  unfolding gs
  spelled p =
      kinds_append p (write_phases N n w (2 ^ n)) (write_rows n rows) (start N n)
      ∙ rw (kinds_phases N n fit w sw p, kinds_rows p n n 0 rows (read_from (write_phases N n w (2 ^ n)) (start N n)))
      (append-nil (spelling (weight w p)))

  together : (p : ℕ) → weight w p ≢ 0 → Together p (weight w p) gs (start N n)
  unfolding gs
  together p some = together_first (phases_together N n fit w sw p some) (write_rows n rows)

  -- no weight from 2 ^ n on
  kinds : (kind v : ℕ) → kind_of kind ≡ Phase v → gates_of_kind kind gs ≡ spelled_gates kind w
  unfolding spelled_gates
  kinds kind v e =
      let m : 2 ^ n ≤ 2 ^ N = pow_mono fit in
      let f : ℕ → ℕ = λ p. occurs kind (spelling (weight w p)) in
      kinds_total kind v e N n fit gs (start N n) formed (start_sound N n fit)
      ∙ sum-ext (2 ^ n) (λ p. occurs kind (kinds_at p gs (start N n))) f (λ p l. ap (occurs kind) (spelled p))
      ∙ sym (sum-stop (2 ^ n) (length w) f (omega (arith, sw.long)) (λ p l. occurs-none kind (weight w p) (sw.high p l)))

  -- one T or T dagger for an odd weight, none for an even one
  t_counted : t_gates gs ≡ member_count (odd_set w)
  unfolding spelled_gates kind_of
  t_counted =
      let f : ℕ → ℕ = λ p. occurs T (spelling (weight w p)) in
      let g : ℕ → ℕ = λ p. occurs T_DAGGER (spelling (weight w p)) in
      t_by_kind gs ∙ ap₂ ◌+◌ (kinds T 1 refl) (kinds T_DAGGER 7 refl) ∙ sym (sum-add (length w) f g)
      ∙ sum-ext (length w) (λ p. f p + g p) (λ p. get_or (odd_set w) p 0)
      (λ p l. (right (weight w p) (sw.small p)).t_if_odd ∙ sym (odd_mark w p))
      ∙ ap (λ (k : ℕ). sum k (λ p. get_or (odd_set w) p 0)) (sym (length-odd w)) ∙ sym (members_sum (odd_set w) (odd_bits w))

  -- no weight is spelled with a Z
  no_z : gates_of_kind Z gs ≡ 0
  unfolding spelled_gates kind_of
  no_z =
      kinds Z 4 refl
      ∙ sum-ext (length w) (λ p. occurs Z (spelling (weight w p))) (λ p. 0) (λ p l. (right (weight w p) (sw.small p)).no_z)
      ∙ sum-zero (length w)

  pub list_written : Wrote N n (reading_lent w rows) (write_list N n w rows)
  unfolding gs
  list_written =
      record {
        formed = formed;
        reads = reads;
        short = short;
        spelled = spelled;
        together = together;
        kinds = kinds;
        t_counted = t_counted;
        no_z = no_z;
      }
