-- Marking what a mask names, and listing the marks, one turn of each loop after the other.
use mathlib.Core.List.{List}
use mathlib.Core.Logic.{◌≢◌}
use mathlib.Core.Path.{◌∙◌, ◌≡◌, ap, ap₂, subst, sym}
use Prim.Native.Nat.{◌%◌, ◌+◌, ◌<◌, ◌^◌, ◌≤◌, suc, zero, ℕ}
use native.Mathlib.Decide.{dec_lt, ℕ_discrete}
use native.Mathlib.Nat.{le_refl, one-mul, zero-mul}
use native.Mathlib.Numerals.{add-one}
use native.Mathlib.Omega.{arith}
use lib.Bits.{bit_or, bit_xor, or_lt, xor_lt, xor_zero_r}
use lib.ListN.{get_or, length, length-set, replicate, set, take}
use lib.Seq.{get_or-set_other, get_or-take, length-take-le}
use Rattle.circuit.proofs.OddSet.{members_sum}
use Rattle.circuit.specs.Bits.{AllPassed, Passed}
use Rattle.circuit.specs.Limits.{max_members, max_wires, move_cells, move_head, parities, product_bits, table_bytes}
use Rattle.circuit.specs.OddSet.{member_count}
use Rattle.echelon.specs.Slots.{SlotMembers}
use Rattle.circuit.specs.declared.bits.BitsOf.{BitsOf}
use Rattle.gf2.proofs.Combination.{combine-whole}
use Rattle.gf2.proofs.Selection.{combine-first, combine-next}
use Rattle.gf2.proofs.Steady.{steady}
use Rattle.gf2.proofs.Table.{get_or-zeros}
use Rattle.gf2.proofs.Xor.{or_left, or_right}
use Rattle.gf2.specs.Bit.{NextBit, bit}
use Rattle.gf2.specs.Selection.{combine}
use Rattle.gf2.specs.Sum.{sum}
use Rattle.moves.proofs.Flips.{flip_bits}
use Rattle.moves.proofs.Logs.{cells_count, cells_more, cells_none}
use Rattle.moves.proofs.Sets.{listed_end, listed_length, listed_off, listed_on, listed_room}
use Rattle.moves.proofs.Naming.{Room, flipped_few, flipped_off, named_bits, named_few, named_from, named_length, named_off, named_on}
use Rattle.moves.specs.CarryOut.{flip}
use Rattle.moves.specs.Log.{as_cells}
use Rattle.moves.specs.Pair.{PairIn, mended, named}
use Rattle.moves.specs.Sets.{listed}
use Rattle.kernel.specs.Naming.{Few, FewBelow, NamesSet, NoPair, NoneFrom, SetNamed, listed_cells, set_with, total_with}

-- the member of a slot is a parity
pub member_fits : {member : List ℕ} {s y : ℕ} → SlotMembers member → s < product_bits → y ≡ get_or member s 0 → y < parities
member_fits {s = s} h l of = omega (arith, of, h.below s (omega (arith, h.long)))

-- the members of marks that are 0 or 1 are their sum
marked_sum : (marks : List ℕ) → length marks ≡ table_bytes → ((p : ℕ) → get_or marks p 0 < 2)
    → member_count marks ≡ sum parities (λ p. get_or marks p 0)
marked_sum marks long bits = members_sum marks bits ∙ ap (λ (k : ℕ). sum k (λ p. get_or marks p 0)) long

-- the set is small enough: a member for each slot at most, and a
module _ (m : ℕ) {a : ℕ} {member : List ℕ} (h : SlotMembers member) (fits : a < parities) where
  room : Room parities member m product_bits
  room j l e = h.below j (omega (arith, h.long))

  small : Few (set_with a m member)
  small =
      let w : List ℕ = named parities member m product_bits in
      let long : length w ≡ table_bytes = named_length parities member m product_bits in
      let as_long : length (flip w a) ≡ table_bytes = length-set w a ((get_or w a 0 + 1) % 2) ∙ long in
      let bits : (p : ℕ) → get_or (flip w a) p 0 < 2 = λ p. flip_bits w a p (named_bits parities member m product_bits p) in
      record {
        long = as_long;
        bits = bits;
        few =
            omega (
              arith,
              marked_sum (flip w a) as_long bits,
              named_few parities member m product_bits room,
              subst (λ (k : ℕ). sum k (λ p. get_or (flip w a) p 0) ≤ sum k (λ p. get_or w p 0) + 1) long (flipped_few w a (rw long fits)),
            );
      }

  -- all slots passed, and the mark of a flipped
  set-marks : {w set : List ℕ} → w ≡ named parities member m product_bits → set ≡ flip w a → SetNamed a m member set
  set-marks {w} {set} is t =
      let e : set ≡ set_with a m member = t ∙ ap (λ (x : List ℕ). flip x a) is in
      record { is = e; small = subst Few (sym e) small }

-- ---- the xor of the members passed

xor_start : (m : ℕ) (member : List ℕ) → 0 ≡ combine (m % 2 ^ 0) member
xor_start m member = sym (combine-first m member)

module _ (m k : ℕ) (member : List ℕ) where
  xor_on : bit m k ≡ 1 → combine (m % 2 ^ (k + 1)) member ≡ bit_xor (combine (m % 2 ^ k) member) (get_or member k 0)
  xor_on e = ap (λ (j : ℕ). combine (m % 2 ^ j) member) (add-one k) ∙ combine-next m k member ∙ rw (e, one-mul (get_or member k 0))

  xor_off : bit m k ≡ 0 → combine (m % 2 ^ (k + 1)) member ≡ combine (m % 2 ^ k) member
  xor_off e =
      ap (λ (j : ℕ). combine (m % 2 ^ j) member) (add-one k) ∙ combine-next m k member
      ∙ rw (e, zero-mul (get_or member k 0)) (xor_zero_r (combine (m % 2 ^ k) member))

-- all of them
xor_whole : (m a : ℕ) {member : List ℕ} {x : ℕ} → SlotMembers member → x ≡ combine (m % 2 ^ product_bits) member
    → bit_xor x a ≡ total_with a m member
xor_whole m a {member} h is =
    ap (λ (y : ℕ). bit_xor y a) (is ∙ ap (λ (k : ℕ). combine (m % 2 ^ k) member) (sym h.long) ∙ combine-whole m member)

-- ---- the loop over the slots

-- one more is marked
flip_none : (w : List ℕ) (top top' q : ℕ) → top ≤ top' → q ≤ top' → NoneFrom (top + 1) w → NoneFrom (top' + 1) (flip w q)
flip_none w top top' q l g none p h = get_or-set_other w q p ((get_or w q 0 + 1) % 2) 0 (omega arith) ∙ none p (omega arith)

-- those passed were gone through: the marks, their xor x, and what none of them is above
pub record NamedTo (a m : ℕ) (member : List ℕ) (l : BitsOf) (marks : List ℕ) (x top : ℕ) : Type 0 where
  pub mask_is : l.mask ≡ m
  pub end_is : l.end ≡ product_bits
  pub marks_are : marks ≡ named parities member m l.from
  pub xor_is : x ≡ combine (m % 2 ^ l.from) member
  pub a_to : a ≤ top
  pub fits : top < parities
  pub none : NoneFrom (top + 1) marks

pub naming_start : (m : ℕ) (member : List ℕ) {a : ℕ} {l : BitsOf} {marks : List ℕ} → a < parities → marks ≡ replicate table_bytes 0
    → (l.mask ≡ m) × (l.from ≡ 0) × (l.end ≡ product_bits)
    → NamedTo a m member l marks 0 a
unfolding named
naming_start m member {a} fits e t =
    record {
      mask_is = t.0;
      end_is = t.2;
      marks_are = rw t.1 e;
      xor_is = rw t.1 (xor_start m member);
      a_to = le_refl a;
      fits = fits;
      none = λ p l. ap (λ (w : List ℕ). get_or w p 0) e ∙ get_or-zeros table_bytes p;
    }

module _ {a m : ℕ} {member : List ℕ} {l : BitsOf} {marks : List ℕ} {x top : ℕ} (h : NamedTo a m member l marks x top) where
  -- the slots up to the next change nothing
  marks_at : {s : ℕ} → NextBit l.end l.mask l.from s → marks ≡ named parities member m s
  marks_at {s} next =
      h.marks_are
      ∙ sym (steady (named parities member m) l.from s next.from
      (λ j f i e. named_off parities member m j (rw h.mask_is at (next.passed j f i)) ∙ e))

  xor_at : {s : ℕ} → NextBit l.end l.mask l.from s → x ≡ combine (m % 2 ^ s) member
  xor_at {s} next =
      h.xor_is
      ∙ sym (steady (λ (j : ℕ). combine (m % 2 ^ j) member) l.from s next.from
      (λ j f i e. xor_off m j member (rw h.mask_is at (next.passed j f i)) ∙ e))

  module _ (slots : SlotMembers member) where
    pub naming_turn : {s y : ℕ} {l' : BitsOf} {marks' : List ℕ} → Passed l s l' → y ≡ get_or member s 0 → marks' ≡ flip marks y
        → NamedTo a m member l' marks' (bit_xor x y) (bit_or top y)
    naming_turn {s} {y} p of t =
        let on : bit m s ≡ 1 = rw h.mask_is at (p.next.on p.inside) in
        record {
          mask_is = p.mask_is ∙ h.mask_is;
          end_is = p.end_is ∙ h.end_is;
          marks_are = rw p.from_is (t ∙ ap₂ flip (marks_at p.next) of ∙ sym (named_on parities member m s on));
          xor_is = rw p.from_is (ap₂ bit_xor (xor_at p.next) of ∙ sym (xor_on m s member on));
          a_to = omega (arith, h.a_to, or_left top y);
          fits = or_lt max_wires top y h.fits (member_fits slots (rw h.end_is at p.inside) of);
          none = rw t (flip_none marks top (bit_or top y) y (or_left top y) (or_right top y) h.none);
        }

    -- all slots passed, and a is marked
    pub naming_end : {l' : BitsOf} {marks' : List ℕ} → a < parities → AllPassed l l' → marks' ≡ flip marks a
        → NamesSet a m member marks' (bit_xor x a) top
    naming_end a_fits p t =
        record {
          named = set-marks m slots a_fits (rw h.end_is at (marks_at p.none)) t;
          total_is = xor_whole m a slots (rw h.end_is at (xor_at p.none));
          fits = h.fits;
          none = rw t (flip_none marks top top a (le_refl top) h.a_to h.none);
        }

-- ---- the set mended

-- no more than before
module _ {set : List ℕ} (h : Few set) (z y : ℕ) (z_fits : z < parities) (y_fits : y < parities) (on : get_or set y 0 ≡ 1) where
  abbrev once : List ℕ
  once = flip set y

  abbrev twice : List ℕ
  twice = flip (flip set y) (bit_xor y z)

  once_long : length once ≡ table_bytes
  once_long = length-set set y ((get_or set y 0 + 1) % 2) ∙ h.long

  once_bits : (p : ℕ) → get_or once p 0 < 2
  once_bits p = flip_bits set y p (h.bits p)

  b_fits : bit_xor y z < length once
  b_fits = rw once_long (xor_lt max_wires y z y_fits z_fits)

  flipped_twice : Few twice
  flipped_twice =
      let long : length twice ≡ table_bytes = length-set once (bit_xor y z) ((get_or once (bit_xor y z) 0 + 1) % 2) ∙ once_long in
      let bits : (p : ℕ) → get_or twice p 0 < 2 = λ p. flip_bits once (bit_xor y z) p (once_bits p) in
      record {
        long = long;
        bits = bits;
        few =
            omega (
              arith,
              h.few,
              marked_sum set h.long h.bits,
              marked_sum twice long bits,
              subst (λ (k : ℕ). sum k (λ p. get_or once p 0) + 1 ≡ sum k (λ p. get_or set p 0)) h.long
                  (flipped_off set y (rw h.long y_fits) on),
              subst (λ (k : ℕ). sum k (λ p. get_or twice p 0) ≤ sum k (λ p. get_or once p 0) + 1) once_long
                  (flipped_few once (bit_xor y z) b_fits),
            );
      }

  pub mended_few : (total : ℕ) → Few (mended total z y set)
  unfolding mended
  mended_few zero = h
  mended_few (suc total) = flipped_twice

  -- and none above the partner and those before
  mended_below : (total top : ℕ) → NoneFrom (top + 1) set → NoneFrom (bit_or top (bit_xor y z) + 1) (mended total z y set)
  unfolding mended
  mended_below zero top none = λ p l. none p (omega (arith, or_left top (bit_xor y z)))
  mended_below (suc total) top none =
      flip_none once top (bit_or top (bit_xor y z)) (bit_xor y z) (or_left top (bit_xor y z)) (or_right top (bit_xor y z))
      (flip_none set top top y (le_refl top) (go (dec_lt top y)) none)
    where
      go : Dec (top < y) → y ≤ top
      go (yes l) = absurd (omega (arith, on, none y (omega arith)))
      go (no l) = omega arith

-- ---- the search for one of a pair

-- it is none of the members of those slots passed that m names
pub record NoneTo (marks : List ℕ) (z : ℕ) (set : List ℕ) (m : ℕ) (member : List ℕ) (l : BitsOf) : Type 0 where
  pub mask_is : l.mask ≡ m
  pub end_is : l.end ≡ product_bits
  pub none : (j : ℕ) → j < l.from → bit m j ≡ 1 → PairIn marks z set (get_or member j 0) → ⊥

pub none_start : (marks set : List ℕ) (z : ℕ) {m : ℕ} (member : List ℕ) {l : BitsOf} → (l.mask ≡ m) × (l.from ≡ 0) × (l.end ≡ product_bits)
    → NoneTo marks z set m member l
none_start marks set z member t = record { mask_is = t.0; end_is = t.2; none = λ j l e q. omega (arith, t.1) }

module _ {marks set : List ℕ} {z m : ℕ} {member : List ℕ} {l : BitsOf} (h : NoneTo marks z set m member l) where
  -- nor of those up to the next
  none_at : {s : ℕ} → NextBit l.end l.mask l.from s → (j : ℕ) → j < s → bit m j ≡ 1 → PairIn marks z set (get_or member j 0) → ⊥
  none_at t j i e q = go (dec_lt j l.from)
    where
      go : Dec (j < l.from) → ⊥
      go (yes g) = h.none j g e q
      go (no g) = omega (arith, e, rw h.mask_is at (t.passed j (omega arith) i))

  -- the member of the next is none
  pub none_turn : {s y : ℕ} {l' : BitsOf} → Passed l s l' → y ≡ get_or member s 0 → (PairIn marks z set y → ⊥)
      → NoneTo marks z set m member l'
  none_turn {s} p is never =
      record {
        mask_is = p.mask_is ∙ h.mask_is;
        end_is = p.end_is ∙ h.end_is;
        none = λ j i e q. go j (omega (arith, p.from_is)) e q (ℕ_discrete j s);
      }
    where
      go : (j : ℕ) → j < s + 1 → bit m j ≡ 1 → PairIn marks z set (get_or member j 0) → Dec (j ≡ s) → ⊥
      go j i e q (yes d) = never (rw is (rw d at q))
      go j i e q (no ne) = none_at p.next j (omega arith) e q

  pub none_end : {l' : BitsOf} → AllPassed l l' → (j : ℕ) → j < product_bits → bit m j ≡ 1 → PairIn marks z set (get_or member j 0) → ⊥
  none_end p = rw h.end_is at (none_at p.none)

-- none of the slots' members, nor a: none at all
pub no_pair : (marks : List ℕ) (z a m : ℕ) (member : List ℕ) → (PairIn marks z (set_with a m member) a → ⊥)
    → ((j : ℕ) → j < product_bits → bit m j ≡ 1 → PairIn marks z (set_with a m member) (get_or member j 0) → ⊥)
    → NoPair marks z a m member
no_pair marks z a m member a_none none y q = go (ℕ_discrete y a)
  where
    w₀ : List ℕ
    w₀ = named parities member m product_bits

    go : Dec (y ≡ a) → ⊥
    go (yes e) = a_none (rw e at q)
    go (no ne) =
        let f = named_from parities member m product_bits y
        (λ e. omega (arith, q.on, get_or-set_other w₀ a y ((get_or w₀ a 0 + 1) % 2) 0 ne)) in
        none f.0 f.1 f.2 (rw f.3 q)

-- nor in a set that was named so
pub pair_none : {marks set member : List ℕ} {z a m : ℕ} → SetNamed a m member set → (PairIn marks z set a → ⊥)
    → ((j : ℕ) → j < product_bits → bit m j ≡ 1 → PairIn marks z set (get_or member j 0) → ⊥)
    → (y : ℕ) → PairIn marks z set y → ⊥
pair_none {marks} {set} {member} {z} {a} {m} w a_none none y q =
    no_pair marks z a m member (rw w.is at a_none) (rw w.is at none) y (rw w.is at q)

-- ---- the set named and mended

module _ {marks member set : List ℕ} {z a m y : ℕ} (w : SetNamed a m member set) (p : (y < parities) × PairIn marks z set y) where
  -- the partner of y is a parity, and so is an or with it
  pub end_fits : {top : ℕ} → z < parities → top < parities → bit_or top (bit_xor y z) < parities
  end_fits {top} z_fits top_fits = or_lt max_wires top (bit_xor y z) top_fits (xor_lt max_wires y z p.0 z_fits)

  -- mended, it is small enough still, and none of it is above that
  pub mended_set : {total top e : ℕ} {set' : List ℕ} → z < parities → NamesSet a m member set total top → e ≡ bit_or top (bit_xor y z)
      → set' ≡ mended total z y set → FewBelow (e + 1) set'
  mended_set {total} {top} z_fits n e t =
      rw (e, t) (record {
        small = mended_few w.small z y z_fits p.0 p.1.on total;
        inside = omega (arith, end_fits z_fits n.fits);
        none = mended_below w.small z y z_fits p.0 p.1.on total top n.none;
      })

-- ---- the loop over the marks

-- the cells so far are those of the numbers below y that are marked
pub record ListedTo (z : ℕ) (marks : List ℕ) (y : ℕ) (cells : List ℕ) : Type 0 where
  pub is : cells ≡ as_cells max_members z (listed y (λ p. get_or marks p 0))

-- the marks below `end`, cut off
pub cut_long : {end : ℕ} {marks : List ℕ} → FewBelow end marks → length (take end marks) ≡ end
cut_long {end} {marks} h = length-take-le end marks (omega (arith, h.inside, h.small.long))

pub cut_at : {end y : ℕ} {marks : List ℕ} → FewBelow end marks → y < length (take end marks)
    → (y < end) × (get_or (take end marks) y 0 ≡ get_or marks y 0)
cut_at {end} {y} {marks} h l = let inside : y < end = omega (arith, l, cut_long h) in (inside, get_or-take end marks y 0 inside)

pub list_none : (z : ℕ) (marks : List ℕ) → ListedTo z marks 0 (set (replicate move_cells 0) 0 z)
unfolding listed
list_none z marks = record { is = sym (cells_none max_members z) }

module _ {z y end : ℕ} {marks cells : List ℕ} (h : FewBelow end marks) (t : ListedTo z marks y cells) where
  -- the numbers so far
  abbrev Y : List ℕ
  Y = listed y (λ p. get_or marks p 0)

  count : get_or cells 1 0 ≡ length Y
  count = ap (λ (l : List ℕ). get_or l 1 0) t.is ∙ cells_count max_members z Y

  -- there is room for one that is marked
  pub list_room : y < end → get_or marks y 0 ≡ 1 → get_or cells 1 0 < max_members
  list_room l e =
      omega (
        arith,
        count,
        listed_room (λ p. get_or marks p 0) h.small.bits parities y (omega (arith, h.inside)) e,
        listed_length (λ p. get_or marks p 0) h.small.bits parities,
        marked_sum marks h.small.long h.small.bits,
        h.small.few,
      )

  -- their number stays where it is, as a number goes in behind it
  pub count_kept : (k x : ℕ) → get_or (set cells (k + move_head) x) 1 0 ≡ get_or cells 1 0
  count_kept k x = get_or-set_other cells (k + move_head) 1 x 0 (omega arith)

  -- k of them so far: y goes after them, and they are one more
  pub list_on : {k : ℕ} → y < end → get_or marks y 0 ≡ 1 → k ≡ get_or cells 1 0
      → ListedTo z marks (y + 1) (set (set cells (k + move_head) y) 1 (get_or (set cells (k + move_head) y) 1 0 + 1))
  list_on {k} l e c =
      let room : length Y < max_members = omega (arith, list_room l e, count) in
      rw (count_kept k y, c, count, t.is) (record {
        is = cells_more max_members z Y y room ∙ ap (as_cells max_members z) (sym (listed_on y (λ p. get_or marks p 0) e));
      })

  pub list_off : get_or marks y 0 ≢ 1 → ListedTo z marks (y + 1) cells
  list_off ne =
      record {
        is = t.is ∙ ap (as_cells max_members z) (sym (listed_off y (λ p. get_or marks p 0) (omega (arith, h.small.bits y))));
      }

-- all that can be in the set were passed
pub list_end : {z end : ℕ} {marks cells : List ℕ} → FewBelow end marks → ListedTo z marks end cells → cells ≡ listed_cells z marks
list_end {end = end} {marks} h t =
    t.is ∙ ap (as_cells max_members _) (sym (listed_end end parities (λ p. get_or marks p 0) h.inside h.none))
