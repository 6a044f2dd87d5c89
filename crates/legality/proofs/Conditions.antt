-- The conditions of a legal move put together, and the form of its cells.
use mathlib.Core.List.{List}
use mathlib.Core.Logic.{◌≢◌}
use mathlib.Core.Path.{◌∙◌, ◌≡◌, refl, sym}
use Prim.Native.Nat.{◌+◌, ◌-◌, ◌<◌, ◌^◌, ◌≤◌, ℕ}
use native.Mathlib.Decide.{dec_lt}
use native.Mathlib.Omega.{arith}
use lib.Bits.{xor_lt}
use lib.ListN.{get_or-eq_default, drop, get_or, length, length-drop, take}
use lib.Seq.{get_or-drop, length-take-le}
use Rattle.std.proofs.lemmas.List.{get_or-take}
use Rattle.circuit.specs.Limits.{max_members, max_wires, move_head, parities, table_bytes}
use Rattle.circuit.specs.OddSet.{Member}
use Rattle.gf2.proofs.Pairing.{xor_equal}
use Rattle.gf2.specs.Over.{Below}
use Rattle.moves.proofs.Logs.{cells_checked}
use Rattle.moves.specs.Log.{LegalCells, MoveForm, set_of, z_of}
use Rattle.moves.specs.Move.{Legal, Separates}
use Rattle.legality.specs.Tested.{AllMembers, IsZero, MemberSet, SaysLegal, SaysMove}

-- a number beyond the marks is no member
pub member_inside : (marks : List ℕ) (p : ℕ) → Member marks p → p < length marks
member_inside marks p m = go (dec_lt p (length marks))
  where
    go : Dec (p < length marks) → p < length marks
    go (yes l) = l
    go (no l) = let h : length marks ≤ p = omega arith in absurd (omega (arith, get_or-eq_default marks 0 h))

-- marks for N wires: members are parities, and so is a z that separates them
module _ (N : ℕ) (marks Y : List ℕ) (long : length marks ≡ 2 ^ N) (marked : AllMembers marks Y) where
  pub members_below : Below (2 ^ N) Y
  members_below i l = rw (← long) (member_inside marks (get_or Y i 0) (marked (get_or Y i 0) (i, l, refl)))

  pub separates_below : {z : ℕ} → Separates marks z Y → z < 2 ^ N
  separates_below s =
      let a = member_inside marks s.a (marked s.a s.a_in) in
      let b = member_inside marks s.b s.b_member in
      rw s.z_is (xor_lt N s.a s.b (omega (arith, a)) (omega (arith, b)))

-- a z that separates is not 0
pub separates_some : {marks Y : List ℕ} {z : ℕ} → Separates marks z Y → z ≢ 0
separates_some s e = s.b_out (rw (← (xor_equal s.a s.b (sym s.z_is ∙ e))) s.a_in)

pub set-few : {most : ℕ} {cells : List ℕ} → MoveForm most cells → length (set_of cells) ≤ most
set-few {cells = cells} f = rw (length-take-le (get_or cells 1 0) (drop move_head cells) (omega (arith, length-drop move_head cells))) f.few

-- what `is_balanced` asks for
pub may_balance : {marks Y : List ℕ} {z : ℕ} → length marks ≡ table_bytes → MemberSet marks Y → Separates marks z Y
    → (z ≢ 0) × (z < parities) × Below parities Y
may_balance {marks} {Y} long set s =
    (separates_some s, separates_below max_wires marks Y long set.1 s, members_below max_wires marks Y long set.1)

-- for cells that say a move, the move decides
module _ {marks cells Y : List ℕ} {z : ℕ} (said : SaysMove cells z Y) where
  pub says_legal : Legal max_members max_wires marks z Y → SaysLegal marks cells z Y
  says_legal g =
      record {
        legal = (cells_checked max_members max_wires marks cells).1 (said.form, rw (← said.z_is, ← said.set_is) g);
        z_is = said.z_is;
        set_is = said.set_is;
      }

  pub not_legal : (Legal max_members max_wires marks z Y → ⊥) → LegalCells max_members max_wires marks cells → ⊥
  not_legal n g = n (rw (said.z_is, said.set_is) ((cells_checked max_members max_wires marks cells).0 g).1)

-- ---- the cells cut into pieces: the two of the head, and the others, which are Y and what is left

pub record Cut (most : ℕ) (cells head rest Y left : List ℕ) : Type 0 where
  pub long : length cells ≡ most + move_head
  pub head_is : head ≡ take move_head cells
  pub rest_is : rest ≡ drop move_head cells
  pub few : get_or head 1 0 ≤ most
  pub set_is : Y ≡ take (get_or head 1 0) rest
  pub left_is : left ≡ drop (get_or head 1 0) rest

module _ {most : ℕ} {cells head rest Y left : List ℕ} (cut : Cut most cells head rest Y left) where
  cut_head : (i : ℕ) → i < move_head → get_or head i 0 ≡ get_or cells i 0
  cut_head i l = rw cut.head_is (get_or-take move_head cells i 0 l)

  -- the number in Y
  cut_count : get_or head 1 0 ≡ get_or cells 1 0
  cut_count = cut_head 1 (omega arith)

  pub cut_z : get_or head 0 0 ≡ z_of cells
  cut_z = cut_head 0 (omega arith)

  pub cut_set : Y ≡ set_of cells
  cut_set = cut.set_is ∙ rw (cut.rest_is, cut_count) refl

  cut_at : (i : ℕ) → get_or left i 0 ≡ get_or cells (get_or cells 1 0 + move_head + i) 0
  cut_at i =
      let e : move_head + (get_or cells 1 0 + i) ≡ get_or cells 1 0 + move_head + i = omega arith in
      rw (cut.left_is, cut.rest_is, cut_count, get_or-drop, get_or-drop, e) refl

  cut_left : length left + get_or cells 1 0 ≡ most
  cut_left =
      rw (cut.left_is, cut.rest_is, cut_count, length-drop, length-drop)
      (omega (arith, cut.long, rw cut_count at cut.few))

  pub cut_form : IsZero left → MoveForm most cells
  cut_form zero =
      record {
        long = cut.long;
        few = rw (← cut_count) cut.few;
        zeros =
            λ i from l.
            let j : ℕ = i - (get_or cells 1 0 + move_head) in
            let e : get_or cells 1 0 + move_head + j ≡ i = omega arith in
            rw (← e) (sym (cut_at j) ∙ zero j (omega (arith, cut_left, cut.long)));
      }

  pub cut_zero : MoveForm most cells → IsZero left
  cut_zero form i l = cut_at i ∙ form.zeros (get_or cells 1 0 + move_head + i) (omega arith) (omega (arith, cut_left, cut.long))

  pub cut_few : length Y ≤ most
  cut_few =
      rw (cut.set_is, length-take-le (get_or head 1 0) rest (rw (cut.rest_is, length-drop) (omega (arith, cut.few, cut.long)))) cut.few
