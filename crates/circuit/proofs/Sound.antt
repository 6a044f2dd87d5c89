-- Reading keeps weights and rows sound: by one gate, then along the list. Over n and N.
use mathlib.Core.List.{◌++◌, List, [], ◌∷◌}
use mathlib.Core.Logic.{◌≢◌}
use mathlib.Core.Path.{ap, refl, sym, ◌∙◌, ◌≡◌}
use Prim.Native.Nat.{◌%◌, ◌+◌, ◌<◌, ◌^◌, ℕ, ◌≤◌}
use native.Mathlib.Decide.{dec_lt, ℕ_discrete}
use native.Mathlib.Omega.{arith}
use lib.Bits.{bit_xor, xor_lt}
use lib.ListN.{get_or-eq_default, get_or, length, length-replicate, length-set, set}
use lib.Pow.{pow-lt, pow_mono, pow_pos}
use lib.Seq.{get_or-set_other, get_or-set_same}
use borrow.Author.Tests.{le-ltb, lt-ltb}
use Rattle.gf2.proofs.Bit.{bit-pow_other}
use Rattle.gf2.proofs.Selection.{combine-add, combine-one, combine-units, remask, remask_lt, remask_nonzero}
use Rattle.gf2.proofs.Table.{get_d_tabulate, get_or-zeros, length-tabulate}
use Rattle.gf2.specs.Selection.{combine}
use Rattle.gf2.specs.Table.{add_at, tabulate}
use Rattle.circuit.specs.Faults.{AllWellFormed, KindWellFormed, WellFormed}
use Rattle.circuit.specs.Gate.{Gate, gate, kind_of}
use Rattle.circuit.specs.Read.{Reading, first_row, first_rows, join_rows, no_weights, read, read_from, read_gate, read_kind, row, start}
use Rattle.circuit.specs.Sound.{SoundReading, SoundRows, SoundWeights}
use Rattle.circuit.specs.Gate.{Kind}
use Rattle.circuit.specs.Gate.{Cnot, Phase, Unknown}

pub first_row_lem : (N n i : ℕ) → i < n → n ≤ N → get_or (first_rows N n) i 0 ≡ 2 ^ i
unfolding first_rows
first_row_lem N n i l h = get_d_tabulate N (first_row n) i (omega arith) ∙ simp (lt-ltb i n l)

first_beyond : (N n i : ℕ) → n ≤ i → Dec (i < N) → get_or (first_rows N n) i 0 ≡ 0
unfolding first_rows
first_beyond N n i h (yes l) = get_d_tabulate N (first_row n) i l ∙ simp (le-ltb i n h)
first_beyond N n i h (no g) = get_or-eq_default (tabulate N (first_row n)) 0 (rw (length-tabulate N (first_row n)) (omega arith))

pub first_rows_beyond : (N n i : ℕ) → n ≤ i → get_or (first_rows N n) i 0 ≡ 0
first_rows_beyond N n i h = first_beyond N n i h (dec_lt i N)

pub length-first : (N n : ℕ) → length (first_rows N n) ≡ N
unfolding first_rows
length-first N n = length-tabulate N (first_row n)

-- a combination of the first rows is its mask
pub combine-first_rows : (N n s : ℕ) → n ≤ N → s < 2 ^ n → combine s (first_rows N n) ≡ s
combine-first_rows N n s h l = combine-units n s (first_rows N n) l (λ i k. first_row_lem N n i k h)

pub first_sound : (N n : ℕ) → n ≤ N → SoundRows N n (first_rows N n)
first_sound N n h =
    record {
      long = length-first N n;
      within = λ i. at i (dec_lt i n);
      beyond = λ i l. first_rows_beyond N n i l;
      free = λ s ne l e. ne (sym (combine-first_rows N n s h l) ∙ e);
    }
  where
    at : (i : ℕ) → Dec (i < n) → get_or (first_rows N n) i 0 < 2 ^ n
    at i (yes l) = rw (first_row_lem N n i l h) (pow-lt l)
    at i (no g) = rw (first_rows_beyond N n i (omega arith)) (pow_pos n)

pub no_weight : (N p : ℕ) → get_or (no_weights N) p 0 ≡ 0
unfolding no_weights
no_weight N p = get_or-zeros (2 ^ N) p

pub length_none : (N : ℕ) → length (no_weights N) ≡ 2 ^ N
unfolding no_weights
length_none N = length-replicate (2 ^ N) 0

pub none_sound : (N n : ℕ) → SoundWeights (2 ^ N) n (no_weights N)
none_sound N n =
    record { long = length_none N; small = λ p. rw (no_weight N p) (omega arith); none = no_weight N 0; high = λ p l. no_weight N p }

pub start_sound : (N n : ℕ) → n ≤ N → SoundReading N n (start N n)
start_sound N n h = record { weights = none_sound N n; rows = first_sound N n h }

pub add_at-same : (w : List ℕ) (q v : ℕ) → q < length w → get_or (add_at 8 w q v) q 0 ≡ (get_or w q 0 + v) % 8
add_at-same w q v h = get_or-set_same w q ((get_or w q 0 + v) % 8) 0 h

pub add_at-other : (w : List ℕ) (q v p : ℕ) → p ≢ q → get_or (add_at 8 w q v) p 0 ≡ get_or w p 0
add_at-other w q v p ne = get_or-set_other w q p ((get_or w q 0 + v) % 8) 0 ne

module _ (N n : ℕ) (fit : n ≤ N) (w : List ℕ) (sound : SoundWeights (2 ^ N) n w) (q v : ℕ) (some : q ≢ 0) (less : q < 2 ^ n) where
  inside : q < length w
  inside = let m : 2 ^ n ≤ 2 ^ N = pow_mono fit in omega (arith, sound.long)

  pub add_at-sound : SoundWeights (2 ^ N) n (add_at 8 w q v)
  add_at-sound =
      record {
        long = length-set w q ((get_or w q 0 + v) % 8) ∙ sound.long;
        small = λ p. at p (ℕ_discrete p q);
        none = add_at-other w q v 0 (λ e. some (sym e)) ∙ sound.none;
        high = λ p l. add_at-other w q v p (omega arith) ∙ sound.high p l;
      }
    where
      at : (p : ℕ) → Dec (p ≡ q) → get_or (add_at 8 w q v) p 0 < 8
      at p (yes e) = rw (e, add_at-same w q v inside) (omega arith)
      at p (no ne) = rw (add_at-other w q v p ne) (sound.small p)

-- a combination of the rows after a CNOT is one of the rows before
pub combine-join : (s a b : ℕ) (rows : List ℕ) → b < length rows → combine s (join_rows a b rows) ≡ combine (remask b (2 ^ a) s) rows
combine-join s a b rows h =
    ap (λ (v : ℕ). combine s (set rows b (bit_xor (get_or rows b 0) v))) (sym (combine-one a rows)) ∙ combine-add s b (2 ^ a) rows h

module _ (N n : ℕ) (fit : n ≤ N) (rows : List ℕ) (sound : SoundRows N n rows) (a b : ℕ) (la : a < n) (lb : b < n) (ne : a ≢ b) where
  joined : ℕ
  joined = bit_xor (get_or rows b 0) (get_or rows a 0)

  low : b < length rows
  low = omega (arith, sound.long)

  pub join_sound : SoundRows N n (join_rows a b rows)
  unfolding joined
  join_sound =
      record {
        long = length-set rows b joined ∙ sound.long;
        within = λ i. at i (ℕ_discrete i b);
        beyond = λ i l. get_or-set_other rows b i joined 0 (omega arith) ∙ sound.beyond i l;
        free =
            λ s z l e. sound.free (remask b (2 ^ a) s) (remask_nonzero b (2 ^ a) (bit-pow_other a b ne) s z)
            (remask_lt n b (2 ^ a) s (pow-lt la) l) (sym (combine-join s a b rows low) ∙ e);
      }
    where
      at : (i : ℕ) → Dec (i ≡ b) → get_or (set rows b joined) i 0 < 2 ^ n
      at i (yes e) =
          rw (e, get_or-set_same rows b joined 0 low) (xor_lt n (get_or rows b 0) (get_or rows a 0) (sound.within b) (sound.within a))
      at i (no g) = rw (get_or-set_other rows b i joined 0 g) (sound.within i)

-- a wire's parity is never 0
pub row_nonzero : (N n : ℕ) (rows : List ℕ) → SoundRows N n rows → (a : ℕ) → a < n → get_or rows a 0 ≢ 0
row_nonzero N n rows sound a la e = sound.free (2 ^ a) (omega (arith, pow_pos a)) (pow-lt la) (combine-one a rows ∙ e)

-- ---- along the list

kind_keeps : (N n : ℕ) → n ≤ N → (k : Kind) (a b : ℕ) (r : Reading) → KindWellFormed n k a b → SoundReading N n r
    → SoundReading N n (read_kind k a b r)
unfolding read_kind
kind_keeps N n fit Cnot a b r f s = record { weights = s.weights; rows = join_sound N n fit r.rows s.rows a b f.0 f.1 f.2 }
kind_keeps N n fit (Phase v) a b r f s =
    record {
      weights =
          add_at-sound N n fit r.weights s.weights (row r a) v (row_nonzero N n r.rows s.rows a f.0) (s.rows.within a);
      rows = s.rows;
    }
kind_keeps N n fit Unknown a b r f s = absurd f

pub gate_keeps : (N n : ℕ) → n ≤ N → (g : Gate) (r : Reading) → WellFormed n g → SoundReading N n r → SoundReading N n (read_gate g r)
gate_keeps N n fit (gate kind a b) r f s = kind_keeps N n fit (kind_of kind) a b r f s

pub reading_keeps : (N n : ℕ) → n ≤ N → (gs : List Gate) (r : Reading) → AllWellFormed n gs → SoundReading N n r
    → SoundReading N n (read_from gs r)
unfolding read_from
reading_keeps N n fit [] r f s = s
reading_keeps N n fit (g ∷ gs) r f s = reading_keeps N n fit gs (read_gate g r) f.1 (gate_keeps N n fit g r f.0 s)

-- reading an accepted list gives sound weights and rows
pub read_sound : (N n : ℕ) → n ≤ N → (gs : List Gate) → AllWellFormed n gs → SoundReading N n (read N n gs)
read_sound N n fit gs f = reading_keeps N n fit gs (start N n) f (start_sound N n fit)

-- reading keeps the number of weights, whatever the list
kind_long : (k : Kind) (a b : ℕ) (r : Reading) → length (read_kind k a b r).weights ≡ length r.weights
unfolding read_kind
kind_long Cnot a b r = refl
kind_long (Phase v) a b r = length-set r.weights (row r a) ((get_or r.weights (row r a) 0 + v) % 8)
kind_long Unknown a b r = refl

from_long : (gs : List Gate) (r : Reading) → length (read_from gs r).weights ≡ length r.weights
unfolding read_from
from_long [] r = refl
from_long (gate kind a b ∷ gs) r = from_long gs (read_gate (gate kind a b) r) ∙ kind_long (kind_of kind) a b r

pub weights_long : (N n : ℕ) (gs : List Gate) → length (read N n gs).weights ≡ 2 ^ N
weights_long N n gs = from_long gs (start N n) ∙ length_none N

-- lists may be joined anywhere
pub read_append : (xs ys : List Gate) (r : Reading) → read_from (xs ++ ys) r ≡ read_from ys (read_from xs r)
unfolding read_from
read_append [] ys r = refl
read_append (x ∷ xs) ys r = read_append xs ys (read_gate x r)
