-- The trim of an accepted circuit, from what each of its steps leaves.
use mathlib.Core.List.{List}
use mathlib.Core.Path.{ap, ap₂, subst, sym, ◌∙◌, ◌≡◌}
use Prim.Native.Nat.{◌*◌, ◌≤◌, ℕ}
use lib.ListN.{length}
use Rattle.circuit.proofs.Sound.{read_sound}
use Rattle.circuit.specs.Faults.{AllWellFormed}
use Rattle.circuit.specs.Gate.{Gate, gates_of, t_gates}
use Rattle.circuit.specs.Lent.{KeptFrom, front_gates, read_bytes, reading_lent}
use Rattle.circuit.specs.Limits.{gate_bytes, max_members, max_wires, move_cells, parities}
use Rattle.circuit.specs.OddSet.{member_count, odd_set}
use Rattle.circuit.specs.Read.{Reading, read}
use Rattle.circuit.specs.Sound.{SoundReading, SoundRows, SoundWeights}
use Rattle.circuit.specs.TableFaults.{Marked}
use Rattle.judges.specs.declared.faults.FormedList.{FormedList}
use Rattle.moves.proofs.Laws.{limits_suffice}
use Rattle.moves.specs.Log.{logged}
use Rattle.moves.specs.Replay.{Replays, SmallestEach}
use Rattle.moving.proofs.Making.{Turn, still_marked}
use Rattle.moving.specs.Steps.{AllMade}
use Rattle.phase.proofs.Laws.{new_weights_sound, odd_set_is_sound}
use Rattle.phase.specs.NewWeights.{new_weights}
use Rattle.synth.specs.Entry.{WroteBytes}
use Rattle.trimmed.proofs.Whole.{whole}
use Rattle.trimmed.specs.Trimmed.{Trimmed, odd_set_of, weights_of}
use Rattle.trimmed.specs.declared.Counts.{Counts}
use Rattle.written.specs.Chosen.{chosen}
use Rattle.written.specs.Faults.{Writable}
use Rattle.written.specs.Wrote.{Wrote}
use Rattle.trimmer.specs.Entry.{ChosenFor, DoneWith, TrimInto, WritesFor, to_write}

-- C is read: its weights and rows
pub record ReadC (n : ℕ) (bytes out log w rows : List ℕ) : Type 0 where
  pub few : n ≤ max_wires
  pub formed : AllWellFormed n (gates_of bytes)
  pub lent : TrimInto n out log
  pub reads : reading_lent w rows ≡ read_bytes n bytes

pub read_c : {out log w rows : List ℕ} (c : FormedList) → TrimInto c.wires.count out log
    → reading_lent w rows ≡ read_bytes c.wires.count c.gates.now → ReadC c.wires.count c.gates.now out log w rows
read_c c t e = record { few = c.wires.few; formed = c.formed; lent = t; reads = e }

module _ {n : ℕ} {bytes out log w rows : List ℕ} (c : ReadC n bytes out log w rows) where
  w_is : w ≡ weights_of n (gates_of bytes)
  w_is = ap (λ (r : Reading). r.weights) c.reads

  rows_is : rows ≡ (read max_wires n (gates_of bytes)).rows
  rows_is = ap (λ (r : Reading). r.rows) c.reads

  sound : SoundReading max_wires n (read_bytes n bytes)
  sound = read_sound max_wires n c.few (gates_of bytes) c.formed

  pub sound_weights : SoundWeights parities n w
  sound_weights = subst (λ (x : List ℕ). SoundWeights parities n x) (sym w_is) sound.weights

  pub sound_rows : SoundRows max_wires n rows
  sound_rows = subst (λ (x : List ℕ). SoundRows max_wires n x) (sym rows_is) sound.rows

-- its odd set is marked
pub record MarkedC (n : ℕ) (bytes out log w rows first : List ℕ) : Type 0 where
  pub read : ReadC n bytes out log w rows
  pub odd : first ≡ odd_set w

pub marked_c : {n : ℕ} {bytes out log w rows first : List ℕ} → ReadC n bytes out log w rows → first ≡ odd_set w
    → MarkedC n bytes out log w rows first
marked_c c e = record { read = c; odd = e }

module _ {n : ℕ} {bytes out log w rows first : List ℕ} (c : MarkedC n bytes out log w rows first) where
  first_is : first ≡ odd_set_of n (gates_of bytes)
  first_is = c.odd ∙ ap odd_set (w_is c.read)

  pub marked_first : Marked n first
  marked_first =
      record {
        some = c.read.lent.some;
        few = c.read.few;
        sound = rw c.odd (odd_set_is_sound parities n w (sound_weights c.read));
      }

-- the moves are made
pub record MovedC (n : ℕ) (bytes out log w rows first : List ℕ) (k : ℕ) (last log' : List ℕ) : Type 0 where
  pub marked : MarkedC n bytes out log w rows first
  pub all : AllMade n first log k last log'

pub moved_c : {n : ℕ} {bytes out log w rows first : List ℕ} {k : ℕ} {last log' : List ℕ} → MarkedC n bytes out log w rows first
    → AllMade n first log k last log' → MovedC n bytes out log w rows first k last log'
moved_c c all = record { marked = c; all = all }

module _ {n : ℕ} {bytes out log w rows first : List ℕ} {k : ℕ} {last log' : List ℕ}
    (c : MovedC n bytes out log w rows first k last log') where
  turn : Turn n first log k last log'
  turn = record { first = marked_first c.marked; room = c.marked.read.lent.log_room; made = c.all.made }

  pub marked_last : Marked n last
  marked_last = still_marked turn

  replayed : Replays max_members n (odd_set_of n (gates_of bytes)) (logged move_cells log' k) last
  replayed =
      subst (λ (x : List ℕ). Replays max_members n x (logged move_cells log' k) last) (first_is c.marked) c.all.made.replayed

  smallest : SmallestEach max_members n (odd_set_of n (gates_of bytes)) (logged move_cells log' k)
  smallest =
      subst (λ (x : List ℕ). SmallestEach max_members n x (logged move_cells log' k)) (first_is c.marked) c.all.made.smallest

-- the new weights are found
pub record WeighedC (n : ℕ) (bytes out log w rows first : List ℕ) (k : ℕ) (last log' new : List ℕ) : Type 0 where
  pub moved : MovedC n bytes out log w rows first k last log'
  pub new_is : new ≡ new_weights parities n w last

pub weighed_c : {n : ℕ} {bytes out log w rows first : List ℕ} {k : ℕ} {last log' new : List ℕ}
    → MovedC n bytes out log w rows first k last log' → new ≡ new_weights parities n w last
    → WeighedC n bytes out log w rows first k last log' new
weighed_c c e = record { moved = c; new_is = e }

module _ {n : ℕ} {bytes out log w rows first : List ℕ} {k : ℕ} {last log' new : List ℕ}
    (c : WeighedC n bytes out log w rows first k last log' new) where
  abbrev reading_c : ReadC n bytes out log w rows
  reading_c = c.moved.marked.read

  abbrev C : List Gate
  C = gates_of bytes

  pub writable : Writable n new rows (length out)
  writable =
      record {
        some = (marked_last c.moved).some;
        few = (marked_last c.moved).few;
        room = reading_c.lent.out_room;
        weights_sound =
            rw c.new_is
            (new_weights_sound parities n (limits_suffice n (marked_last c.moved).few).0 w last (marked_last c.moved).sound);
        rows_sound = sound_rows reading_c;
      }

  -- D is written, and all is counted
  pub finish : {out' : List ℕ} {count : ℕ} → WroteBytes n new rows out out' count → (counts : Counts) → counts.tin ≡ t_gates C
      → counts.odd ≡ member_count first → counts.tout ≡ member_count last → counts.moves ≡ k → counts.gates ≡ count
      → DoneWith n bytes out log out' log' counts
  finish {out'} {count} wrote counts tin odd tout moves gates =
      let D : List Gate = front_gates count out' in
      let list = wrote.list in
      let w_d : weights_of n D ≡ new_weights parities n (weights_of n C) last =
      ap (λ (r : Reading). r.weights) list.reads ∙ c.new_is ∙ ap (λ (x : List ℕ). new_weights parities n x last) (w_is reading_c) in
      let r_d : (read max_wires n D).rows ≡ (read max_wires n C).rows = ap (λ (r : Reading). r.rows) list.reads ∙ rows_is reading_c in
      let t_d : t_gates D ≡ member_count (odd_set_of n D) =
      list.t_counted ∙ ap (λ (r : Reading). member_count (odd_set r.weights)) (sym list.reads) in
      let all : Trimmed n C D log' counts =
      whole n reading_c.few C reading_c.formed log' k last (replayed c.moved) (smallest c.moved) c.moved.all.none
      D list.formed w_d r_d t_d
      counts tin (odd ∙ ap member_count (first_is c.moved.marked)) tout moves (gates ∙ wrote.counted) in
      let new_c : new ≡ new_weights parities n (weights_of n C) (odd_set_of n D) =
      sym (ap (λ (r : Reading). r.weights) list.reads) ∙ all.weights in
      let to_write_is : reading_lent new rows ≡ to_write n C D = ap₂ reading_lent new_c (rows_is reading_c) in
      let for_c : WritesFor n C D = subst (λ (r : Reading). Wrote max_wires n r D) to_write_is list in
      let alone : ChosenFor n C D = wrote.alone ∙ ap (chosen max_wires n) to_write_is in
      record {
        trimmed = subst (λ (j : ℕ). Trimmed n C (front_gates j out') log' counts) (sym gates) all;
        written = subst (λ (j : ℕ). WritesFor n C (front_gates j out')) (sym gates) for_c;
        alone = subst (λ (j : ℕ). ChosenFor n C (front_gates j out')) (sym gates) alone;
        gates_kept = subst (λ (j : ℕ). KeptFrom (gate_bytes * j) out out') (sym gates) wrote.kept;
        log_kept = subst (λ (j : ℕ). KeptFrom (move_cells * j) log log') (sym moves) c.moved.all.made.kept;
      }
