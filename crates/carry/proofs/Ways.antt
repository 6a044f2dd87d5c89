-- One law for each way out of the entry `carry_out`: the tests that led there give the reply, and the marks are as it says.
use mathlib.Core.Bool.{Bool, cond}
use mathlib.Core.List.{List}
use mathlib.Core.Logic.{◌↔◌, ◌≢◌, inl, inr}
use mathlib.Core.Path.{◌∙◌, ◌≡◌, ap, ap₂, refl, sym}
use Prim.Native.Nat.{◌^◌, ◌≤◌, ℕ}
use lib.ListN.{length}
use lib.Pow.{pow_mono}
use borrow.Author.Tests.{ne_eqb}
use Rattle.std.proofs.lemmas.Result.{err_from_is_err_and}
use Rattle.std.specs.Prelude.{Ok, Result}
use Rattle.std.specs.Result.{IsErrAnd}
use Rattle.circuit.proofs.Judging.{after_refusal, lent_well, or_first, or_second, refused}
use Rattle.circuit.proofs.Results.{numbered}
use Rattle.circuit.proofs.TableRule.{marks_passes}
use Rattle.circuit.specs.Faults.{bad_move, lent_fault, lent_output, or_else, refuse, wires_fault}
use Rattle.circuit.specs.Limits.{max_members, max_wires, parities, table_bytes}
use Rattle.circuit.specs.Replies as reply
use Rattle.circuit.specs.Replies.{Reply}
use Rattle.circuit.specs.Sound.{SoundMarks}
use Rattle.circuit.specs.TableFaults.{Marked, marks_fault}
use Rattle.circuit.specs.Told.{number}
use Rattle.circuit.specs.declared.faults.Fault.{Fault}
use Rattle.circuit.specs.declared.faults.Refusal.{Refusal}
use Rattle.moves.proofs.Deciding.{move_no, move_yes}
use Rattle.moves.proofs.Differing.{differing-none}
use Rattle.moves.proofs.Laws.{move_keeps_signature, move_leaves_sound, move_shrinks}
use Rattle.moves.proofs.Logs.{cells_checked}
use Rattle.moves.proofs.Wires.{cells_wires, sound_wires}
use Rattle.moves.specs.CarryOut.{carry_out}
use Rattle.moves.specs.Decide.{is_move}
use Rattle.moves.specs.Log.{LegalCells, set_of, z_of}
use Rattle.legality.proofs.Conditions.{separates_below, separates_some}
use Rattle.carry.specs.Entry.{CarriesOut, carry_fault, carry_reply}
use Rattle.carry.specs.Flips.{Flippable, Flips}

-- the reply where the checks of the call pass, by whether the cells are a legal move
abbrev pub verdict : Bool → Reply
verdict legal = cond legal reply.Done (reply.Refused bad_move 0)

judge : ℕ → List ℕ → List ℕ → Reply
judge n m b = verdict (is_move max_members n m b)

-- ---- the checks of the call

-- none of 1, 8 and 6: sound marks have the length that 8 asks for
pub call_clear : (n : ℕ) (marks : List ℕ) → (carry_fault n marks ≡ 0) ↔ Marked n marks
call_clear n marks = (
  λ e. ((marks_passes n (lent_fault (length marks) table_bytes) marks).0 e).0,
  λ m. (marks_passes n (lent_fault (length marks) table_bytes) marks).1 (m, lent_well (length marks) table_bytes m.sound.long),
)

-- the fault of a call, as its checks find it in order
module _ (n : ℕ) (m : List ℕ) {f : ℕ} where
  pub wires_first : f ≢ 0 → f ≡ wires_fault n → f ≡ carry_fault n m
  wires_first h e = e ∙ or_first (wires_fault n) _ (λ z. h (e ∙ z))

  module _ (wires : 0 ≡ wires_fault n) where
    pub then_lent : length m ≢ table_bytes → f ≡ lent_output → f ≡ carry_fault n m
    then_lent h e =
        let lent : lent_fault (length m) table_bytes ≡ lent_output = simp (ne_eqb (length m) table_bytes h) in
        e ∙ or_second (wires_fault n) lent_output (sym wires)
        ∙ ap (λ (x : ℕ). or_else (wires_fault n) (or_else x (marks_fault n m))) (sym lent)

    pub then_marks : length m ≡ table_bytes → f ≡ marks_fault n m → f ≡ carry_fault n m
    then_marks h e =
        e ∙ or_second (lent_fault (length m) table_bytes) (marks_fault n m) (lent_well (length m) table_bytes h)
        ∙ or_second (wires_fault n) _ (sym wires)

-- none of them
pub checked : (n : ℕ) (m : List ℕ) → 0 ≡ wires_fault n → length m ≡ table_bytes → 0 ≡ marks_fault n m → Marked n m
checked n m wires long marks = (call_clear n m).0 (sym (then_marks n m wires long marks))

-- what `?` gives where a check has found a fault
abbrev pub LeavesWith : Result ℕ Refusal → Fault → Type 0
LeavesWith r fault = IsErrAnd r (λ refusal. (refusal.fault ≡ fault) × (refusal.place ≡ 0))

pub call_refused : {n : ℕ} {m b : List ℕ} {r : Result ℕ Refusal} (fault : Fault) → number fault ≡ carry_fault n m → LeavesWith r fault
    → CarriesOut n m b m r
unfolding judge
call_refused {n} {m} {b} {r} fault e left =
    let p = err_from_is_err_and r left in
    let number_is : number p.0.fault ≡ carry_fault n m = ap number p.2.0 ∙ e in
    let h = numbered p.0.fault in
    rw p.1
    (record {
      reply =
          ap (reply.Refused (number p.0.fault)) p.2.1 ∙ sym (refused (number p.0.fault) 0 (judge n m b) h)
          ∙ ap (λ (x : ℕ). refuse x 0 (judge n m b)) number_is;
      judged = λ z. absurd (h (number_is ∙ z));
      marks_left = after_refusal (number p.0.fault) _ m h;
      differ = sym (differing-none m);
      signature = λ d. absurd (h d);
      sound = λ d. absurd (h d);
      smaller = λ d. absurd (h d);
    })

-- ---- the move

module _ {n : ℕ} {m : List ℕ} (marked : Marked n m) where
  -- sound on all wires too
  pub sound_on_all : SoundMarks parities max_wires m
  sound_on_all = sound_wires parities n max_wires m marked.few marked.sound

  by_move : (b : List ℕ) → judge n m b ≡ carry_reply n m b
  unfolding judge
  by_move b = ap (λ (x : ℕ). refuse x 0 (judge n m b)) (sym ((call_clear n m).1 marked))

  -- the code judges on all wires
  on_all : (b : List ℕ) → LegalCells max_members n m b ↔ LegalCells max_members max_wires m b
  on_all = cells_wires parities n max_wires max_members m marked.few marked.sound

  pub move_refused : {b : List ℕ} {r : Result ℕ Refusal} (fault : Fault) → (LegalCells max_members max_wires m b → ⊥)
      → number fault ≡ bad_move → LeavesWith r fault → CarriesOut n m b m r
  unfolding judge
  move_refused {b} {r} fault h e left =
      let none : LegalCells max_members n m b → ⊥ = λ g. h ((on_all b).0 g) in
      let p = err_from_is_err_and r left in
      let number_is : number p.0.fault ≡ bad_move = ap number p.2.0 ∙ e in
      rw p.1
      (record {
        reply =
            ap₂ reply.Refused number_is p.2.1 ∙ ap verdict (sym (move_no max_members n m b none)) ∙ by_move b;
        judged = λ z. inr (number_is, p.2.1, none);
        marks_left = after_refusal (number p.0.fault) _ m (numbered p.0.fault);
        differ = sym (differing-none m);
        signature = λ d. absurd (numbered p.0.fault d);
        sound = λ d. absurd (numbered p.0.fault d);
        smaller = λ d. absurd (numbered p.0.fault d);
      })

  pub move_done : {z differ : ℕ} {b Y m' : List ℕ} → LegalCells max_members max_wires m b → z ≡ z_of b → Y ≡ set_of b
      → Flips (carry_out m z Y) m m' differ → CarriesOut n m b m' (Ok differ)
  unfolding judge
  move_done {z} {differ} {b} {Y} {m'} g d e p =
      let legal = (on_all b).1 g in
      let said = ((cells_checked max_members n m b).0 legal).1 in
      let room : 2 ^ n ≤ parities = pow_mono {i = n} {j = max_wires} marked.few in
      let q : m' ≡ carry_out m (z_of b) (set_of b) = rw (← d, ← e) p.are in
      record {
        reply = ap verdict (sym (move_yes max_members n m b legal)) ∙ by_move b;
        judged = λ z. inl (refl, legal);
        marks_left = q;
        differ = p.counted;
        signature = λ _. rw q (move_keeps_signature parities n max_members room m marked.sound (z_of b) (set_of b) said);
        sound = λ _. rw q (move_leaves_sound parities n max_members room m marked.sound (z_of b) (set_of b) said);
        smaller = λ _. rw q (move_shrinks parities n max_members room m marked.sound (z_of b) (set_of b) said);
      }

-- ---- what carrying it out takes

-- z and Y, as code takes them from the cells
pub may_carry : {m b Y : List ℕ} {z : ℕ} → LegalCells max_members max_wires m b → SoundMarks parities max_wires m → z ≡ z_of b
    → Y ≡ set_of b
    → Flippable m z Y
may_carry {m} {b} legal sound d e =
    let said = ((cells_checked max_members max_wires m b).0 legal).1 in
    rw (d, e)
    (record {
      sound = sound;
      some = separates_some said.separates;
      fits = separates_below max_wires m (set_of b) sound.long said.marked said.separates;
      few = said.few;
      members = said.marked;
    })
