-- Rows are told by the end states: lists that send each basis state to the same state have the same rows. The states with one wire set
-- suffice. Over n and N.
use mathlib.Core.List.{List}
use mathlib.Core.Path.{ap, sym, ◌∙◌, ◌≡◌}
use Prim.Native.Nat.{◌<◌, ◌^◌, ℕ, ◌≤◌}
use native.Mathlib.Decide.{dec_lt}
use native.Mathlib.Omega.{arith}
use lib.ListN.{get_or}
use lib.Pow.{pow-lt}
use lib.Seq.{ext_get_or}
use Rattle.circuit.proofs.ReadRuns.{end_bit, read_runs}
use Rattle.circuit.proofs.Sound.{read_sound}
use Rattle.circuit.specs.Faults.{AllWellFormed}
use Rattle.circuit.specs.Gate.{Gate}
use Rattle.circuit.specs.Read.{read}
use Rattle.circuit.specs.Run.{SameAction, State}
use Rattle.circuit.specs.Says.{end_state}
use Rattle.circuit.specs.Sound.{SoundRows}
use Rattle.gf2.proofs.Bit.{bit-ext}
use Rattle.gf2.proofs.Parity.{parity-comm, parity-pow}
use Rattle.gf2.specs.Bit.{bit}

-- wire j alone is set: it ends on the wires whose rows name j
row_bit : (n : ℕ) (rows : List ℕ) (i j : ℕ) → i < n → j < n → bit (end_state n rows (2 ^ j)) i ≡ bit (get_or rows i 0) j
row_bit n rows i j hi hj =
    end_bit n rows (2 ^ j) i hi ∙ parity-comm n (get_or rows i 0) (2 ^ j) ∙ parity-pow n j (get_or rows i 0) hj

-- sound rows with the same end states on these states are the same
ends_tell_rows : (N n : ℕ) (v w : List ℕ) → SoundRows N n v → SoundRows N n w
    → ((j : ℕ) → j < n → end_state n v (2 ^ j) ≡ end_state n w (2 ^ j)) → v ≡ w
ends_tell_rows N n v w a b same = ext_get_or 0 v w (a.long ∙ sym b.long) (λ i h. at i (dec_lt i n))
  where
    at : (i : ℕ) → Dec (i < n) → get_or v i 0 ≡ get_or w i 0
    at i (yes h) =
        bit-ext n (get_or v i 0) (get_or w i 0) (a.within i) (b.within i)
        (λ j l. sym (row_bit n v i j h l) ∙ ap (λ (x : ℕ). bit x i) (same j l) ∙ row_bit n w i j h l)
    at i (no g) = a.beyond i (omega arith) ∙ sym (b.beyond i (omega arith))

pub alike_same_rows : (N n : ℕ) → n ≤ N → (C D : List Gate) → AllWellFormed n C → AllWellFormed n D → SameAction n C D
    → (read N n D).rows ≡ (read N n C).rows
alike_same_rows N n fit C D f_c f_d alike =
    ends_tell_rows N n (read N n D).rows (read N n C).rows (read_sound N n fit D f_d).rows (read_sound N n fit C f_c).rows
    (λ j h. ap (λ (s : State). s.bits)
    (sym (read_runs N n fit D f_d (2 ^ j) (pow-lt h)) ∙ alike (2 ^ j) (pow-lt h) ∙ read_runs N n fit C f_c (2 ^ j) (pow-lt h)))
