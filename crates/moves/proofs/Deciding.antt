-- The tests decide: they hold exactly where the definitions do.
use mathlib.Core.Bool.{Bool, ◌&&◌, false, not, true}
use mathlib.Core.List.{List, [], ◌∷◌}
use mathlib.Core.Logic.{◌↔◌}
use mathlib.Core.Path.{◌∙◌, ◌≡◌, ap, ap₂, refl, sym}
use Prim.Native.Nat.{◌%◌, ◌-◌, ◌<◌, suc, ℕ}
use native.Mathlib.Omega.{arith}
use lib.Bits.{bit_xor, xor_comm}
use lib.Dec.{T, T_not, eqb, eqb_refl, eqb→eq, leb, leb→le, le→leb, ltb, ltb→lt, lt→ltb, not_T}
use lib.ListN.{get_or, length}
use Rattle.circuit.specs.OddSet.{Member}
use Rattle.circuit.specs.Sound.{weight}
use Rattle.gf2.proofs.Brute.{T-both}
use Rattle.gf2.proofs.Every.{any_at, at_any, at_every, every-at}
use Rattle.gf2.proofs.Xor.{xor_cancel}
use Rattle.gf2.specs.Every.{every}
use Rattle.gf2.specs.Over.{sum_over, xor_all}
use Rattle.moves.proofs.Logs.{cells_say}
use Rattle.moves.specs.Decide.{are_members, is_ascending, is_balanced, is_in, is_legal, is_member, is_move, is_separating, same_cells}
use Rattle.moves.specs.Log.{LegalCells, as_cells, set_of, z_of}
use Rattle.moves.specs.Move.{Balanced, Legal, Separates, triple}
use Rattle.moves.specs.Sets.{Ascending, In}

eqb_same : (x y : ℕ) → x ≡ y → T (eqb x y)
eqb_same x y e = rw e (eqb_refl y)

-- ---- the conditions of a legal move

pub in_decided : (y : ℕ) (Y : List ℕ) → T (is_in y Y) ↔ In y Y
in_decided y Y = (
  λ t. let s = any_at (length Y) (λ i. eqb (get_or Y i 0) y) t in (s.0, s.1, eqb→eq (get_or Y s.0 0) y s.2),
  λ s. at_any (length Y) (λ i. eqb (get_or Y i 0) y) s.0 s.1 (eqb_same (get_or Y s.0 0) y s.2),
)

pub ascending_decided : (Y : List ℕ) → T (is_ascending Y) ↔ Ascending Y
ascending_decided Y = (
  λ t i l. ltb→lt (get_or Y i 0) (get_or Y (suc i) 0)
      (every-at (length Y - 1) (λ i. ltb (get_or Y i 0) (get_or Y (suc i) 0)) t i (omega arith)),
  λ a. at_every (length Y - 1) (λ i. ltb (get_or Y i 0) (get_or Y (suc i) 0))
      (λ i l. lt→ltb (get_or Y i 0) (get_or Y (suc i) 0) (a i (omega arith))),
)

pub members_decided : (marks Y : List ℕ) → T (are_members marks Y) ↔ ((y : ℕ) → In y Y → Member marks y)
members_decided marks Y = (
  λ t y s. rw (← s.2)
      (eqb→eq (weight marks (get_or Y s.0 0)) 1 (every-at (length Y) (λ i. is_member marks (get_or Y i 0)) t s.0 s.1)),
  λ m. at_every (length Y) (λ i. is_member marks (get_or Y i 0))
      (λ i l. eqb_same (weight marks (get_or Y i 0)) 1 (m (get_or Y i 0) (i, l, refl))),
)

-- z separates where, for some a in Y, a xor z is a member and not in Y
pub record SeparatesAt (marks : List ℕ) (z : ℕ) (Y : List ℕ) (i : ℕ) : Type 0 where
  pub inside : i < length Y
  pub member : Member marks (bit_xor (get_or Y i 0) z)
  pub outside : In (bit_xor (get_or Y i 0) z) Y → ⊥

pub separates_at : (marks : List ℕ) (z : ℕ) (Y : List ℕ) → Separates marks z Y ↔ ((i : ℕ) × SeparatesAt marks z Y i)
separates_at marks z Y = (
  λ s. let e : bit_xor (get_or Y s.a_in.0 0) z ≡ s.b = ap (λ (x : ℕ). bit_xor x z) s.a_in.2 ∙ other s.a s.b z s.z_is in
      (s.a_in.0, record { inside = s.a_in.1; member = rw e s.b_member; outside = λ t. s.b_out (rw e at t) }),
  λ p. record {
    a = get_or Y p.0 0;
    b = bit_xor (get_or Y p.0 0) z;
    a_in = (p.0, p.1.inside, refl);
    b_member = p.1.member;
    b_out = p.1.outside;
    z_is = sym (other (get_or Y p.0 0) z (bit_xor (get_or Y p.0 0) z) refl);
  },
)
  where
    -- where z is a xor b, a xor z is b
    other : (a b z : ℕ) → z ≡ bit_xor a b → bit_xor a z ≡ b
    other a b z e = rw (e, xor_comm a b, xor_comm a (bit_xor b a)) (xor_cancel b a)

pub separates_decided : (marks : List ℕ) (z : ℕ) (Y : List ℕ) → T (is_separating marks z Y) ↔ Separates marks z Y
separates_decided marks z Y = (
  λ t. let s = any_at (length Y) test t in
      let q = (T-both (is_member marks (b s.0)) (not (is_in (b s.0) Y))).0 s.2 in
      (separates_at marks z Y).1 (
        s.0,
        record {
          inside = s.1;
          member = eqb→eq (weight marks (b s.0)) 1 q.0;
          outside = λ h. T_not (is_in (b s.0) Y) q.1 ((in_decided (b s.0) Y).1 h);
        },
      ),
  λ s. let p = (separates_at marks z Y).0 s in
      at_any (length Y) test p.0 p.1.inside
      ((T-both (is_member marks (b p.0)) (not (is_in (b p.0) Y))).1
      (eqb_same (weight marks (b p.0)) 1 p.1.member, not_T (is_in (b p.0) Y) (λ t. p.1.outside ((in_decided (b p.0) Y).0 t)))),
)
  where
    b : ℕ → ℕ
    b i = bit_xor (get_or Y i 0) z

    test : ℕ → Bool
    test i = is_member marks (bit_xor (get_or Y i 0) z) && not (is_in (bit_xor (get_or Y i 0) z) Y)

pub balanced_decided : (n z : ℕ) (Y : List ℕ) → T (is_balanced n z Y) ↔ Balanced n z Y
balanced_decided n z Y = (
  λ t. let q = (T-both (eqb (xor_all Y) 0) (every n third)).0 t in
      record {
        zero_xor = eqb→eq (xor_all Y) 0 q.0;
        triples =
            λ i j k l g f.
            eqb→eq (sum_over (triple z i j k) Y % 2) 0
            (every-at j (first j k) (every-at k (second k) (every-at n third q.1 k f) j g) i l);
      },
  λ b. (T-both (eqb (xor_all Y) 0) (every n third)).1 (
    eqb_same (xor_all Y) 0 b.zero_xor,
    at_every n third
        (λ k f. at_every k (second k)
        (λ j g. at_every j (first j k) (λ i l. eqb_same (sum_over (triple z i j k) Y % 2) 0 (b.triples i j k l g f)))),
  ),
)
  where
    first : ℕ → ℕ → ℕ → Bool
    first j k i = eqb (sum_over (triple z i j k) Y % 2) 0

    second : ℕ → ℕ → Bool
    second k j = every j (λ i. eqb (sum_over (triple z i j k) Y % 2) 0)

    third : ℕ → Bool
    third k = every k (λ j. every j (λ i. eqb (sum_over (triple z i j k) Y % 2) 0))

pub legal_decided : (most n : ℕ) (marks : List ℕ) (z : ℕ) (Y : List ℕ) → T (is_legal most n marks z Y) ↔ Legal most n marks z Y
unfolding is_legal
legal_decided most n marks z Y = (
  λ t. let u = (T-both (A && B && C && D) E).0 t in
      let v = (T-both (A && B && C) D).0 u.0 in
      let w = (T-both (A && B) C).0 v.0 in
      let x = (T-both A B).0 w.0 in
      record {
        few = leb→le (length Y) most x.0;
        ordered = (ascending_decided Y).0 x.1;
        marked = (members_decided marks Y).0 w.1;
        separates = (separates_decided marks z Y).0 v.1;
        balanced = (balanced_decided n z Y).0 u.1;
      },
  λ g. (T-both (A && B && C && D) E).1 (
    (T-both (A && B && C) D).1 (
      (T-both (A && B) C).1
          ((T-both A B).1 (le→leb (length Y) most g.few, (ascending_decided Y).1 g.ordered), (members_decided marks Y).1 g.marked),
      (separates_decided marks z Y).1 g.separates,
    ),
    (balanced_decided n z Y).1 g.balanced,
  ),
)
  where
    A : Bool
    A = leb (length Y) most

    B : Bool
    B = is_ascending Y

    C : Bool
    C = are_members marks Y

    D : Bool
    D = is_separating marks z Y

    E : Bool
    E = is_balanced n z Y

-- ---- the cells of a move

pub same_decided : (xs ys : List ℕ) → T (same_cells xs ys) ↔ (xs ≡ ys)
unfolding same_cells
same_decided [] [] = (λ t. refl, λ e. tt)
same_decided [] (y ∷ ys) = (λ t. absurd t, λ e. let q : ◌≡◌ {A = ℕ} 0 1 = cc in absurd (omega arith))
same_decided (x ∷ xs) [] = (λ t. absurd t, λ e. let q : ◌≡◌ {A = ℕ} 0 1 = cc in absurd (omega arith))
same_decided (x ∷ xs) (y ∷ ys) = (
  λ t. let q = (T-both (eqb x y) (same_cells xs ys)).0 t in
      ap₂ (λ (a : ℕ) (r : List ℕ). a ∷ r) (eqb→eq x y q.0) ((same_decided xs ys).0 q.1),
  λ e. (T-both (eqb x y) (same_cells xs ys)).1 (eqb_same x y (cc), (same_decided xs ys).1 (cc)),
)

pub move_decided : (most n : ℕ) (marks cells : List ℕ) → T (is_move most n marks cells) ↔ LegalCells most n marks cells
unfolding is_move
move_decided most n marks cells = (
  λ t. let q = (T-both S R).0 t in
      record {
        z = z_of cells;
        Y = set_of cells;
        is = (same_decided cells (as_cells most (z_of cells) (set_of cells))).0 q.0;
        legal = (legal_decided most n marks (z_of cells) (set_of cells)).0 q.1;
      },
  λ f. let s = cells_say most f.z f.Y cells f.is in
      (T-both S R).1 (
        (same_decided cells (as_cells most (z_of cells) (set_of cells))).1 (f.is ∙ sym (ap₂ (as_cells most) s.0 s.1)),
        (legal_decided most n marks (z_of cells) (set_of cells)).1 (rw (s.0, s.1) f.legal),
      ),
)
  where
    S : Bool
    S = same_cells cells (as_cells most (z_of cells) (set_of cells))

    R : Bool
    R = is_legal most n marks (z_of cells) (set_of cells)

T-is : (b : Bool) → T b → b ≡ true
T-is true t = refl
T-is false t = absurd t

is_t : (b : Bool) → b ≡ true → T b
is_t b e = rw e tt

not_t_is : (b : Bool) → (T b → ⊥) → b ≡ false
not_t_is true h = absurd (h tt)
not_t_is false h = refl

-- for code that answers yes, and for code that answers no
pub move_yes : (most n : ℕ) (marks cells : List ℕ) → LegalCells most n marks cells → is_move most n marks cells ≡ true
move_yes most n marks cells f = T-is (is_move most n marks cells) ((move_decided most n marks cells).1 f)

pub move_no : (most n : ℕ) (marks cells : List ℕ) → (LegalCells most n marks cells → ⊥) → is_move most n marks cells ≡ false
move_no most n marks cells h = not_t_is (is_move most n marks cells) (λ t. h ((move_decided most n marks cells).0 t))

pub move_is : (most n : ℕ) (marks cells : List ℕ) → is_move most n marks cells ≡ true → LegalCells most n marks cells
move_is most n marks cells e = (move_decided most n marks cells).0 (is_t (is_move most n marks cells) e)
