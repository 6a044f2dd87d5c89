-- The page to read: what the promise of `put_verdict` means for the program that prints the line, and for who reads it.
use mathlib.Core.List.{List, []}
use mathlib.Core.Logic.{◌↔◌, ◌≢◌}
use mathlib.Core.Path.{◌∙◌, ◌≡◌, ap, refl, sym}
use Prim.Native.Nat.{◌+◌, ◌≤◌, ℕ}
use native.Mathlib.Omega.{arith}
use lib.ListN.{drop, get_or, length, take}
use lib.Seq.{length-take-le, take-append_seam}
use Rattle.std.specs.Prelude.{Err, Ok, Option, Result}
use Rattle.circuit.proofs.Placing.{placed_kept}
use Rattle.circuit.specs.Faults.{Accepted}
use Rattle.circuit.specs.Gate.{gates_of}
use Rattle.circuit.specs.Run.{SameAction, ToldApart}
use Rattle.circuit.specs.Told.{number}
use Rattle.circuit.specs.declared.faults.Refusal.{Refusal}
use Rattle.compare.proofs.Laws.{differ_exactly, same_exactly}
use Rattle.compare.specs.Entry.{ComparesLists}
use Rattle.compare.specs.declared.Compared.{Compared}
use Rattle.compare.specs.declared.Compared.TheVariants.{Differ, Same}
use Rattle.text.proofs.TextLaws.{first_bytes_decide}
use Rattle.text.specs.Limits.{refused_line_bytes, text_bytes}
use Rattle.text.specs.Text.{Text, circuit, read_text}
use Rattle.text.specs.Written.{differ_line, refused_line, same_line}
use Rattle.verdict.specs.Verdicts.{Prints, VerdictOn, bytes_of, compared, first_faulty, line_of, other_wires, second_faulty}
use Rattle.verdict.specs.declared.Verdict.{Verdict}
use Rattle.verdict.specs.declared.Which.{Which}

-- the first bytes of each text decide
pub first_bytes_suffice : (t u was left : List ℕ) (v : Option Verdict)
    → VerdictOn (read_text (take text_bytes t)) (read_text (take text_bytes u)) was left v
    → VerdictOn (read_text t) (read_text u) was left v
first_bytes_suffice t u was left v d = rw (first_bytes_decide t, first_bytes_decide u) d

-- ---- what the program writes: the bytes that are counted, from the start of those lent

-- they stand within these, and are the line
pub record Shows (v : Option Verdict) (left line : List ℕ) : Type 0 where
  pub inside : bytes_of v ≤ length left
  pub whole : bytes_of v ≡ length (take (bytes_of v) left)
  pub is : take (bytes_of v) left ≡ line

line_short : (r : Result Compared Refusal) → length (line_of r) ≤ refused_line_bytes
line_short (Ok Same) = omega arith
line_short (Ok Differ) = omega arith
line_short (Err refusal) = omega arith

shows : {line was left : List ℕ} {named : Option Which} {v : Option Verdict} → Prints line named was left v → length line ≤ length was
    → Shows v left line
shows {line} {was} {left} {named} {v} p h =
    let k : bytes_of v ≡ length line = ap bytes_of p.tells in
    let fits : bytes_of v ≤ length left = omega (arith, ap length p.stands, (placed_kept was line h).long) in
    record {
      inside = fits;
      whole = sym (length-take-le (bytes_of v) left fits);
      is = rw (k, p.stands) (take-append_seam line (drop (0 + length line) was));
    }

-- ---- the line, by what the texts are

-- two circuits on the same wires, without a fault, of which P holds
pub record Circuits (P : ℕ → List ℕ → List ℕ → Type 0) (t u : Text) : Type 0 where
  pub n : ℕ
  pub first : List ℕ
  pub second : List ℕ
  pub first_is : t ≡ circuit n first
  pub second_is : u ≡ circuit n second
  pub first_accepted : Accepted n first
  pub second_accepted : Accepted n second
  pub holds : P n first second

-- the line that a verdict shows
pub shown : {t u : Text} {was left : List ℕ} {v : Option Verdict} → VerdictOn t u was left v → refused_line_bytes ≤ length was
    → (line : List ℕ) × Shows v left line
shown (first_faulty p) h = (_, shows p (omega arith))
shown (second_faulty p) h = (_, shows p (omega arith))
shown (other_wires ne) h = ([], record { inside = omega arith; whole = refl; is = refl })
shown (compared p) h = (_, shows p.prints (omega (arith, line_short p.reply)))

-- where `compare` replies R exactly for accepted lists of which P holds, and no other line is the one for R
module _ (R : Result Compared Refusal) (P : ℕ → List ℕ → List ℕ → Type 0)
    (exactly : (n : ℕ) (first second : List ℕ) (r : Result Compared Refusal) → ComparesLists n first second r
    → (r ≡ R) ↔ (Accepted n first × Accepted n second × P n first second))
    (tells : (r : Result Compared Refusal) → line_of r ≡ line_of R → r ≡ R) (some : [] ≡ line_of R → ⊥)
    (sound : (fault place : ℕ) → refused_line fault place ≡ line_of R → ⊥) where
  there : {t u : Text} {was left : List ℕ} {v : Option Verdict} → VerdictOn t u was left v → refused_line_bytes ≤ length was
      → take (bytes_of v) left ≡ line_of R → Circuits P t u
  there (first_faulty {number = f} {place = i} p) h e = absurd (sound f i (sym (shows p (omega arith)).is ∙ e))
  there (second_faulty {number = f} {place = i} p) h e = absurd (sound f i (sym (shows p (omega arith)).is ∙ e))
  there (other_wires ne) h e = absurd (some e)
  there (compared {n = n} {first = first} {second = second} p) h e =
      let line = (shows p.prints (omega (arith, line_short p.reply))).is in
      let a = (exactly n first second p.reply p.compared).0 (tells p.reply (sym line ∙ e)) in
      record {
        n = n;
        first = first;
        second = second;
        first_is = refl;
        second_is = refl;
        first_accepted = a.0;
        second_accepted = a.1;
        holds = a.2;
      }

  back : {t u : Text} {was left : List ℕ} {v : Option Verdict} → VerdictOn t u was left v → refused_line_bytes ≤ length was → Circuits P t u
      → take (bytes_of v) left ≡ line_of R
  back (first_faulty p) h c = let z : ◌≡◌ {A = ℕ} 0 1 = cc c.first_is in absurd (omega arith)
  back (second_faulty p) h c = let z : ◌≡◌ {A = ℕ} 0 1 = cc c.second_is in absurd (omega arith)
  back (other_wires {n = n} {m = m} ne) h c =
      let a : n ≡ c.n = cc c.first_is in
      let b : m ≡ c.n = cc c.second_is in
      absurd (ne (a ∙ sym b))
  back (compared {n = n} {first = first} {second = second} p) h c =
      let a : c.n ≡ n = cc c.first_is in
      let b : c.first ≡ first = cc c.first_is in
      let d : c.second ≡ second = cc c.second_is in
      let x : Accepted n first = rw (a, b) at c.first_accepted in
      let y : Accepted n second = rw (a, d) at c.second_accepted in
      let w : P n first second = rw (a, b, d) at c.holds in
      (shows p.prints (omega (arith, line_short p.reply))).is
      ∙ ap line_of ((exactly n first second p.reply p.compared).1 (x, y, w))

  shown_exactly : {t u : Text} {was left : List ℕ} {v : Option Verdict} → VerdictOn t u was left v → refused_line_bytes ≤ length was
      → (take (bytes_of v) left ≡ line_of R) ↔ Circuits P t u
  shown_exactly d room = (there d room, back d room)

-- lines that start with other bytes are not the same
abbrev start : List ℕ → ℕ
start line = get_or line 0 0

other_line : (a b : List ℕ) → start a ≢ start b → a ≡ b → ⊥
other_line a b ne e = ne (ap start e)

same_told : (r : Result Compared Refusal) → line_of r ≡ same_line → r ≡ Ok Same
same_told (Ok Same) e = refl
same_told (Ok Differ) e = absurd (other_line differ_line same_line (omega arith) e)
same_told (Err x) e = absurd (other_line (refused_line (number x.fault) x.place) same_line (omega arith) e)

differ_told : (r : Result Compared Refusal) → line_of r ≡ differ_line → r ≡ Ok Differ
differ_told (Ok Same) e = absurd (other_line same_line differ_line (omega arith) e)
differ_told (Ok Differ) e = refl
differ_told (Err x) e = absurd (other_line (refused_line (number x.fault) x.place) differ_line (omega arith) e)

module _ {t u : Text} {was left : List ℕ} {v : Option Verdict} (d : VerdictOn t u was left v) (room : refused_line_bytes ≤ length was) where
  -- `same` is written exactly where both texts are circuits without a fault, on the same wires, that act alike
  pub same_shown : (take (bytes_of v) left ≡ same_line) ↔ Circuits (λ n first second. SameAction n (gates_of first) (gates_of second)) t u
  same_shown =
      shown_exactly (Ok Same) (λ n first second. SameAction n (gates_of first) (gates_of second)) (λ n first second r c. same_exactly c)
      same_told
      (other_line [] same_line (omega arith)) (λ f i. other_line (refused_line f i) same_line (omega arith)) d room

  -- `differ` exactly where a basis state tells them apart
  pub differ_shown : (take (bytes_of v) left ≡ differ_line)
      ↔ Circuits (λ n first second. ToldApart n (gates_of first) (gates_of second)) t u
  differ_shown =
      shown_exactly (Ok Differ) (λ n first second. ToldApart n (gates_of first) (gates_of second)) (λ n first second r c. differ_exactly c)
      differ_told (other_line [] differ_line (omega arith)) (λ f i. other_line (refused_line f i) differ_line (omega arith)) d room
