-- Whether the columns for a z are apart: the members without wire t go in first, for all z with this wire; then, for one z, the members
-- with it that have no partner. Where each of them opened a slot, no move with z is legal.
use Rattle.std.specs.Prelude.{Bool, None, Option, Some}
use mathlib.Core.List.{List}
use mathlib.Core.Logic.{◌≢◌, ◌⊎◌, inl, inr}
use mathlib.Core.Path.{◌∙◌, ◌≡◌, ap, refl, sym}
use Prim.Native.Nat.{◌%◌, ◌+◌, ◌/◌, ◌<◌, ◌^◌, ℕ}
use native.Mathlib.Decide.{ℕ_discrete}
use native.Mathlib.Nat.{le_refl}
use native.Mathlib.Numerals.{add-one}
use native.Mathlib.Omega.{arith}
use lib.Bits.{bit_xor}
use lib.ListN.{get_or, length}
use Rattle.circuit.specs.Limits.{max_members, max_wires, parities, product_bits}
use Rattle.circuit.specs.Sound.{weight}
use Rattle.columns.proofs.Entries.{entry_is}
use Rattle.columns.specs.Table.{ProductEntry}
use Rattle.echelon.specs.Columns.{Grows, holding}
use Rattle.echelon.specs.Slots.{OpensSlot}
use Rattle.echelon.specs.declared.basis.Slots.{Slots}
use Rattle.gf2.proofs.Basis.{covers_more, covers_none, covers_some, covers_tags}
use Rattle.gf2.proofs.Bit.{bit-lt, bit-values}
use Rattle.gf2.proofs.Held.{held_none}
use Rattle.gf2.specs.Bit.{bit}
use Rattle.gf2.specs.Echelon.{Covers, Stopped, held}
use Rattle.moves.proofs.Bars.{column_off, column_on}
use Rattle.moves.proofs.Laws.{z_none}
use Rattle.moves.proofs.Pairs.{partner_back}
use Rattle.moves.specs.Column.{column}
use Rattle.moves.specs.Pair.{Stands, pair_tag}
use Rattle.moves.specs.Sets.{In}
use Rattle.columns.specs.Halves.{BesideSingle, HalfApart, HalfIn, HalfStays, Keeps, OpenedTo, Without, opened, passed, start}
use Rattle.columns.specs.declared.halves.Half.{Half}
use Rattle.columns.specs.OneZ.{HasPair, Members, NoneWith, ToAsk}

-- ---- members at places

-- y stands at one of the first i places
pub record Placed (ys : List ℕ) (i y : ℕ) : Type 0 where
  pub at : ℕ
  pub under : at < i
  pub is : get_or ys at 0 ≡ y

-- one of all members has a place
pub placed_all : {ys : List ℕ} {y : ℕ} → In y ys → Placed ys (length ys) y
placed_all p = record { at = p.0; under = p.1; is = p.2 }

-- one of the first i + 1 is one of the first i, or the next
pub placed_last : {ys : List ℕ} {i y : ℕ} → Placed ys (i + 1) y → Placed ys i y ⊎ (y ≡ get_or ys i 0)
placed_last {ys} {i} {y} p = go (ℕ_discrete p.at i)
  where
    go : Dec (p.at ≡ i) → Placed ys i y ⊎ (y ≡ get_or ys i 0)
    go (yes e) = inr (sym p.is ∙ ap (λ (j : ℕ). get_or ys j 0) e)
    go (no ne) = inl (record { at = p.at; under = omega (arith, p.under); is = p.is })

-- ---- the members without wire t

-- y is one of those among the first i members
abbrev pub WithoutTo : List ℕ → ℕ → ℕ → ℕ → Type 0
WithoutTo ys t i y = Placed ys i y × (bit y t ≡ 0)

-- their columns are in the slots
abbrev pub HalfTo : List ℕ → ℕ → ℕ → List ℕ → Type 0
HalfTo ys t i vec = (z : ℕ) (τ : ℕ → ℕ) → Covers product_bits (WithoutTo ys t i) (column max_wires z t) τ vec

-- no member passed, no slot named
pub half_none : (ys : List ℕ) (t : ℕ) (vec : List ℕ) → length vec ≡ product_bits → HalfTo ys t 0 (held 0 vec)
half_none ys t vec long z τ =
    rw (held_none vec, long) (covers_none product_bits (column max_wires z t) τ (WithoutTo ys t 0) (λ y p. omega (arith, p.0.under)))

-- the next member names t
pub half_skip : (ys : List ℕ) (t i : ℕ) {y : ℕ} {vec : List ℕ} → HalfTo ys t i vec → y ≡ get_or ys i 0 → y / 2 ^ t % 2 ≢ 0
    → HalfTo ys t (i + 1) vec
unfolding bit
half_skip ys t i {y} {vec} h is ne z τ =
    covers_some product_bits (column max_wires z t) τ (WithoutTo ys t i) (WithoutTo ys t (i + 1)) vec back (h z τ)
  where
    back : (x : ℕ) → WithoutTo ys t (i + 1) x → WithoutTo ys t i x
    back x p = go (placed_last p.0)
      where
        go : Placed ys i x ⊎ (x ≡ get_or ys i 0) → WithoutTo ys t i x
        go (inl q) = (q, p.1)
        go (inr e) = absurd (ne (ap (λ (w : ℕ). w / 2 ^ t % 2) (is ∙ sym e) ∙ p.1))

-- it does not, and its column opened a slot
pub half_more : (ys : List ℕ) (t i : ℕ) {y v : ℕ} {vec vec' : List ℕ} → HalfTo ys t i vec → y ≡ get_or ys i 0 → y / 2 ^ t % 2 ≡ 0
    → ProductEntry y v → OpensSlot v vec vec' → HalfTo ys t (i + 1) vec'
unfolding bit
half_more ys t i {y} {v} {vec} h is off entry o z τ =
    rw o.vec_is
    (covers_more product_bits (column max_wires z t) τ (WithoutTo ys t i) (WithoutTo ys t (i + 1)) vec y last (h z τ) o.s o.left
    o.used stopped)
  where
    stopped : Stopped product_bits vec (column max_wires z t y) o.s o.left o.used
    stopped = rw (column_off max_wires z t y off, ← (entry_is y v entry)) o.stopped

    last : (x : ℕ) → WithoutTo ys t (i + 1) x → WithoutTo ys t i x ⊎ (x ≡ y)
    last x p = go (placed_last p.0)
      where
        go : Placed ys i x ⊎ (x ≡ get_or ys i 0) → WithoutTo ys t i x ⊎ (x ≡ y)
        go (inl q) = inl (q, p.1)
        go (inr e) = inr (e ∙ sym is)

-- all members passed
pub half_all : (ys : List ℕ) (t : ℕ) {vec : List ℕ} → HalfTo ys t (length ys) vec → HalfApart ys t vec
half_all ys t {vec} h z τ =
    covers_some product_bits (column max_wires z t) τ (WithoutTo ys t (length ys)) (Without ys t) vec
    (λ y p. (placed_all p.0, p.1)) (h z τ)

-- where the members without wire t are picked, each for itself, and no others
pub half_opened : (ys : List ℕ) (t : ℕ) {vec₀ : List ℕ} {P : ℕ → Option ℕ → Type 0} {vec : List ℕ} {i : ℕ}
    → ((y : ℕ) → P y None → y / 2 ^ t % 2 ≢ 0) → ((y p : ℕ) → P y (Some p) → (p ≡ y) × (y / 2 ^ t % 2 ≡ 0))
    → HalfTo ys t 0 vec₀ → OpenedTo P ys vec₀ i vec → HalfTo ys t i vec
half_opened ys t none some h start = h
half_opened ys t none some h (passed {i} o p) =
    rw (← (add-one i)) (half_skip ys t i (half_opened ys t none some h o) refl (none _ p))
half_opened ys t none some h (opened {i} {p} {v} o q entry opens) =
    let s = some _ p q in
    rw (← (add-one i)) (half_more ys t i (half_opened ys t none some h o) refl s.1 (rw s.0 at entry) opens)

-- what opened them are all slots
pub half_known : {ys : List ℕ} {t : ℕ} {slots : Slots} → HalfApart ys t (holding slots)
    → HalfIn ys t (record { slots = slots; apart = Some slots.filled })
half_known {ys} {t} {slots} h =
    record {
      known = λ m e. let i : slots.filled ≡ m = cc in rw i at h;
      within = λ m e s b. let i : slots.filled ≡ m = cc in rw i b;
    }

-- slots that are kept
pub keeps_all : {slots : Slots} → Keeps slots slots
keeps_all = record { wider = λ s e. e; kept = λ g w. refl }

pub keeps_more : {v : ℕ} {before slots slots' : Slots} {opened : Bool} → Keeps before slots → Grows v slots slots' opened
    → Keeps before slots'
keeps_more k g =
    record {
      wider = λ s e. g.wider s (k.wider s e);
      kept = λ m w. g.kept m (λ s e. k.wider s (w s e)) ∙ k.kept m w;
    }

-- the slots of the half stay where those of a wider mask are kept
pub half_kept : {ys : List ℕ} {t : ℕ} {half half' : Half} → HalfIn ys t half → HalfStays half half' → HalfIn ys t half'
half_kept h s =
    record {
      known = λ m e. rw (s.kept m (sym s.apart ∙ e)) (h.known m (sym s.apart ∙ e));
      within = λ m e. s.within m (sym s.apart ∙ e);
    }

-- ---- for a z, the members with wire t that have no partner

-- y is such a member
abbrev pub Lone : List ℕ → ℕ → ℕ → ℕ → Type 0
Lone marks z t y = Stands marks z t y × (bit y t ≡ 1)

-- y is without t, or is one of those among the first i members
abbrev pub ApartAt : List ℕ → List ℕ → ℕ → ℕ → ℕ → ℕ → Type 0
ApartAt marks ys z t i y = Without ys t y ⊎ (Lone marks z t y × Placed ys i y)

-- their columns are in the slots
abbrev pub ApartTo : List ℕ → List ℕ → ℕ → ℕ → ℕ → List ℕ → Type 0
ApartTo marks ys z t i vec = (τ : ℕ → ℕ) → Covers product_bits (ApartAt marks ys z t i) (column max_wires z t) τ vec

-- none of them passed: those without t
pub apart_start : (marks ys : List ℕ) (z t : ℕ) {vec : List ℕ} → HalfApart ys t vec → ApartTo marks ys z t 0 vec
apart_start marks ys z t {vec} h τ =
    covers_some product_bits (column max_wires z t) τ (Without ys t) (ApartAt marks ys z t 0) vec back (h z τ)
  where
    back : (y : ℕ) → ApartAt marks ys z t 0 y → Without ys t y
    back y (inl w) = w
    back y (inr p) = absurd (omega (arith, p.1.under))

module _ (marks ys : List ℕ) (z t i : ℕ) {y : ℕ} {vec : List ℕ} (h : ApartTo marks ys z t i vec) (is : y ≡ get_or ys i 0) where
  -- the next member is none of them
  pub apart_skip : (Lone marks z t y → ⊥) → ApartTo marks ys z t (i + 1) vec
  apart_skip never τ =
      covers_some product_bits (column max_wires z t) τ (ApartAt marks ys z t i) (ApartAt marks ys z t (i + 1)) vec back (h τ)
    where
      placed : (x : ℕ) → Lone marks z t x → Placed ys i x ⊎ (x ≡ get_or ys i 0) → Placed ys i x
      placed x q (inl p) = p
      placed x q (inr e) = absurd (never (rw (is, ← e) q))

      back : (x : ℕ) → ApartAt marks ys z t (i + 1) x → ApartAt marks ys z t i x
      back x (inl w) = inl w
      back x (inr p) = inr (p.0, placed x p.0 (placed_last p.1))

  -- since it does not name t
  pub apart_off : bit y t ≢ 1 → ApartTo marks ys z t (i + 1) vec
  apart_off ne = apart_skip (λ q. ne q.1)

  -- or since its partner is marked
  pub apart_paired : {r : ℕ} → Members marks ys → r ≡ weight marks (bit_xor y z) → r ≢ 0 → ApartTo marks ys z t (i + 1) vec
  apart_paired m mark ne = apart_skip (λ q. q.0.alone q.1 (omega (arith, mark, m.sound.bits (bit_xor y z))))

  -- it is one of them, and its column opened a slot
  pub apart_more : {v : ℕ} {vec' : List ℕ} → bit y t ≡ 1 → ProductEntry (bit_xor y z) v → OpensSlot v vec vec'
      → ApartTo marks ys z t (i + 1) vec'
  unfolding bit
  apart_more {v} on entry o τ =
      rw o.vec_is
      (covers_more product_bits (column max_wires z t) τ (ApartAt marks ys z t i) (ApartAt marks ys z t (i + 1)) vec y last (h τ) o.s
      o.left o.used stopped)
    where
      stopped : Stopped product_bits vec (column max_wires z t y) o.s o.left o.used
      stopped = rw (column_on max_wires z t y on, ← (entry_is (bit_xor y z) v entry)) o.stopped

      last : (x : ℕ) → ApartAt marks ys z t (i + 1) x → ApartAt marks ys z t i x ⊎ (x ≡ y)
      last x (inl w) = inl (inl w)
      last x (inr p) = go (placed_last p.1)
        where
          go : Placed ys i x ⊎ (x ≡ get_or ys i 0) → ApartAt marks ys z t i x ⊎ (x ≡ y)
          go (inl q) = inl (inr (p.0, q))
          go (inr e) = inr (e ∙ sym is)

-- where the members with wire t that have no partner are picked, each for its partner
pub apart_opened : (marks ys : List ℕ) (z t : ℕ) {vec₀ : List ℕ} {P : ℕ → Option ℕ → Type 0} {vec : List ℕ} {i : ℕ} → Members marks ys
    → ((y : ℕ) (r : Option ℕ) → P y r → BesideSingle marks z t y r)
    → ApartTo marks ys z t 0 vec₀ → OpenedTo P ys vec₀ i vec → ApartTo marks ys z t i vec
apart_opened marks ys z t m picks h start = h
apart_opened marks ys z t {vec = vec} m picks h (passed {i} o p) =
    rw (← (add-one i)) (passes (apart_opened marks ys z t m picks h o) (picks _ None p))
  where
    passes : ApartTo marks ys z t i vec → BesideSingle marks z t (get_or ys i 0) None → ApartTo marks ys z t (i + 1) vec
    passes before (inl off) = apart_off marks ys z t i before refl off
    passes before (inr paired) = apart_paired marks ys z t i before refl m refl paired
apart_opened marks ys z t m picks h (opened {i} {p} {v} o q entry opens) =
    let s = picks _ (Some p) q in
    rw (← (add-one i))
    (apart_more marks ys z t i (apart_opened marks ys z t m picks h o) refl s.1 (rw s.0 at entry) opens)

-- all members passed: every one that stands for its column is in, and no move with z is legal
pub apart_none : {marks ys : List ℕ} {z t : ℕ} {vec : List ℕ} → Members marks ys → t < max_wires → bit z t ≡ 1
    → ApartTo marks ys z t (length ys) vec → NoneWith marks z
apart_none {marks} {ys} {z} {t} {vec} m t_lt z_t all =
    z_none parities max_wires max_members (le_refl _) marks m.sound z t t_lt z_t (λ W only.
    covers_tags product_bits (column max_wires z t) (pair_tag marks z) (ApartAt marks ys z t (length ys)) vec (all (pair_tag marks z)) W
    (λ i l. in_slots (get_or W i 0) (only i l)))
  where
    in_slots : (y : ℕ) → Stands marks z t y → ApartAt marks ys z t (length ys) y
    in_slots y s = go (bit-values (bit y t) (bit-lt y t))
      where
        go : (bit y t ≡ 0) ⊎ (bit y t ≡ 1) → ApartAt marks ys z t (length ys) y
        go (inl e) = inl (m.listed y s.member, e)
        go (inr e) = inr ((s, e), placed_all (m.listed y s.member))

-- ---- whether z is the xor of two members

-- the partner of the member at place i is marked
pub has_partner : {marks ys : List ℕ} {i y z r : ℕ} → Members marks ys → i < length ys → y ≡ get_or ys i 0 → r ≡ weight marks (bit_xor y z)
    → r ≡ 1 → HasPair marks z
has_partner {i = i} {y = y} m l is mark one = record { a = y; member = m.member y (i, l, sym is); partner = sym mark ∙ one }

-- that of no member is
pub no_partner : {marks ys : List ℕ} {z : ℕ} → Members marks ys → ((i : ℕ) → i < length ys → weight marks (bit_xor (get_or ys i 0) z) ≢ 1)
    → HasPair marks z → ⊥
no_partner m none p = let i = m.listed p.a p.member in none i.0 i.1 (rw i.2 p.partner)

-- a legal move has a pair
pub legal_pair : {marks : List ℕ} {z : ℕ} → (HasPair marks z → ⊥) → NoneWith marks z
legal_pair never Y l =
    let s = l.separates in
    never (record {
      a = s.a;
      member = l.marked s.a s.a_in;
      partner = rw (s.z_is, partner_back s.a s.b) s.b_member;
    })

-- ---- the turns to be asked

-- no turn
pub ask_none : {marks ys : List ℕ} {z : ℕ} → NoneWith marks z → ToAsk marks ys z 0
ask_none none = record { fits = omega arith; all = inr none }
