-- The columns of one z asked in turn: what one that offers nothing leaves, what one that offers a set gives, and what holds when all were
-- asked.
use mathlib.Core.List.{List}
use mathlib.Core.Logic.{◌≢◌, ◌⊎◌, inl, inr}
use mathlib.Core.Path.{◌∙◌, ◌≡◌, ap, refl, subst, sym}
use Prim.Native.Nat.{◌*◌, ◌+◌, ◌<◌, ◌^◌, suc, ℕ}
use native.Mathlib.Decide.{dec_lt, ℕ_discrete}
use native.Mathlib.Nat.{le_refl}
use native.Mathlib.Omega.{arith}
use lib.Pow.{pow_mono, pow_pos}
use lib.ListN.{get_or, length}
use Rattle.std.specs.Prelude.{None, Option, Some}
use Rattle.circuit.specs.Limits.{max_members, max_wires, parities, product_bits}
use Rattle.circuit.specs.Sound.{weight}
use Rattle.echelon.proofs.Masks.{masked_long}
use Rattle.echelon.specs.Columns.{holding}
use Rattle.echelon.specs.Slots.{LeadingBit}
use Rattle.echelon.specs.declared.Echelon.{Echelon}
use Rattle.gf2.proofs.Basis.{basis_had, basis_more, basis_none, basis_same, covers_tags}
use Rattle.gf2.proofs.Held.{held_none}
use Rattle.gf2.specs.Bit.{bit}
use Rattle.gf2.specs.Echelon.{Basis, by_members}
use Rattle.moves.proofs.Finding.{found, passed}
use Rattle.moves.proofs.Laws.{z_none}
use Rattle.moves.proofs.Logs.{cells_say}
use Rattle.moves.specs.Column.{column}
use Rattle.moves.specs.Log.{SmallestCells}
use Rattle.moves.specs.Move.{Legal, NoneBelow}
use Rattle.moves.specs.Pair.{Stands, mended, pair_tag}
use Rattle.moves.specs.Sets.{listed}
use Rattle.columns.proofs.InTurn.{had_all, had_last, had_new, had_none, had_stands, had_wider}
use Rattle.columns.specs.Halves.{HalfIn}
use Rattle.columns.specs.OneZ.{Had, Members, NoneWith, ToAsk, TurnOf}
use Rattle.columns.specs.declared.halves.Half.{Half}
use Rattle.kernel.specs.Naming.{MoveOf, set_with, total_with}
use Rattle.kernel.specs.Offer.{Offered, Passes}

-- ---- the columns of one z

-- the turns before i were asked: their columns are in the slots
pub record AskedBefore (marks ys : List ℕ) (z t i : ℕ) (e : Echelon) : Type 0 where
  pub basis : Basis product_bits (Had marks ys z t i) (column max_wires z t) (pair_tag marks z) (holding e.slots) e.by e.member

-- none was, and no slot is filled
pub asked_start : {marks ys : List ℕ} {z t : ℕ} {e : Echelon} → e.slots.filled ≡ 0 → AskedBefore marks ys z t 0 e
asked_start {marks} {ys} {z} {t} {e} empty =
    record {
      basis =
          rw (empty, held_none e.slots.vec, masked_long e.slots.masked)
          (basis_none product_bits (column max_wires z t) (pair_tag marks z) (Had marks ys z t 0) e.by e.member
          (λ y h. omega (arith, h.1)));
    }

module _ {marks ys : List ℕ} {z t i : ℕ} {e : Echelon} (all : Members marks ys) (h : AskedBefore marks ys z t i e) where
  -- no one has the next turn
  pub asked_skip : {r : Option ℕ} → TurnOf marks ys z t i r → r ≡ None → AskedBefore marks ys z t (i + 1) e
  asked_skip T none =
      record {
        basis =
            basis_same product_bits (column max_wires z t) (pair_tag marks z) (Had marks ys z t i) (Had marks ys z t (i + 1))
            (holding e.slots) e.by e.member had_wider h.basis (had_none T none);
      }

  module _ {a v : ℕ} (T : TurnOf marks ys z t i (Some a)) (v_is : v ≡ column max_wires z t a) where
    a_stands : Stands marks z t a
    a_stands = (T.its a refl).stands

    a_some : a ≢ 0
    a_some zero_a = omega (arith, sym a_stands.member ∙ ap (weight marks) zero_a ∙ all.sound.none)

    -- the others had theirs before
    others : (y : ℕ) → Had marks ys z t (i + 1) y → Had marks ys z t i y ⊎ (y ≡ a)
    others y had = go (had_last T y had)
      where
        go : Had marks ys z t i y ⊎ (Some a ≡ Some y) → Had marks ys z t i y ⊎ (y ≡ a)
        go (inl before) = inl before
        go (inr is) = inr (cc)

    -- it offered nothing
    pub asked_next : {e' : Echelon} → Passes marks a z v e e' → AskedBefore marks ys z t (i + 1) e'
    asked_next (inl (none, same)) = absurd (a_some none)
    asked_next (inr (inl (some, o))) =
        record {
          basis =
              rw (o.slot.vec_is, o.by_is, o.member_is)
              (basis_more product_bits (column max_wires z t) (pair_tag marks z) (Had marks ys z t i) (Had marks ys z t (i + 1))
              (holding e.slots) e.by e.member had_wider h.basis a others (had_new T a refl) o.slot.s o.slot.left o.slot.used
              e.by_long e.members.long (rw v_is at o.slot.stopped));
        }
    asked_next (inr (inr (some, u, same))) =
        rw same (record {
          basis =
              basis_had product_bits (column max_wires z t) (pair_tag marks z) (Had marks ys z t i) (Had marks ys z t (i + 1))
              (holding e.slots) e.by e.member had_wider h.basis a others
              (passed parities max_wires (le_refl _) marks all.sound z t product_bits (Had marks ys z t i) had_stands
              (holding e.slots) e.by e.member h.basis e.members.long a a_stands u.used (rw v_is at u.reached) u.none);
        })

    -- it offered the set of a move, which is legal; and none below z is
    pub offered_smallest : {cells : List ℕ} → t < max_wires → z < parities → bit z t ≡ 1 → NoneBelow max_members max_wires marks z
        → Offered marks a z v e cells → SmallestCells max_members max_wires marks cells
    offered_smallest {cells} t_lt z_lt z_t below o =
        record {
          legal = record { z = z; Y = Y; is = move.is; legal = legal };
          smallest = rw (cells_say max_members z Y cells move.is).0 below;
        }
      where
        move : MoveOf marks z a (by_members e.by o.used product_bits) e.member cells
        move = o.move

        Y : List ℕ
        Y = listed parities (λ p. get_or (mended (total_with a (by_members e.by o.used product_bits) e.member) z move.y
            (set_with a (by_members e.by o.used product_bits) e.member)) p 0)

        legal : Legal max_members max_wires marks z Y
        legal =
            found parities max_wires (le_refl _) marks all.sound z t product_bits (Had marks ys z t i) had_stands (holding e.slots) e.by
            e.member h.basis e.members.long a a_stands o.used (rw v_is at o.reached) max_members (omega arith) t_lt z_lt
            z_t move.y move.pair

-- ---- all columns of one z

pub z_passed : {marks ys : List ℕ} {z t m : ℕ} {e : Echelon} → Members marks ys → t < max_wires → bit z t ≡ 1
    → ToAsk marks ys z m → AskedBefore marks ys z t m e → NoneWith marks z
z_passed {marks} {ys} {z} {t} {m} {e} all t_lt z_t ask h Y legal = go ask.all
  where
    go : (m ≡ 2 * length ys) ⊎ NoneWith marks z → ⊥
    go (inl every) =
        z_none parities max_wires max_members (le_refl _) marks all.sound z t t_lt z_t
        (λ W stand. covers_tags product_bits (column max_wires z t) (pair_tag marks z) (Had marks ys z t m) (holding e.slots)
        h.basis.covers W (λ i l. rw every (had_all all (get_or W i 0) (stand i l)))) Y legal
    go (inr never) = never Y legal

-- ---- the highest wire of z

-- the half that is known when z is asked: that of its highest wire, unless z is the first with it
abbrev pub HalfFor : List ℕ → ℕ → Half → Type 0
HalfFor ys z half = (t : ℕ) → 2 ^ t < z → z < 2 ^ suc t → HalfIn ys t half

pub half_for_one : {ys : List ℕ} {half : Half} → HalfFor ys 1 half
half_for_one t lo hi = absurd (omega (arith, pow_pos t))

pub half_for_this : {ys : List ℕ} {z t : ℕ} {half : Half} → HalfFor ys z half → LeadingBit z t → z ≢ 2 ^ t → HalfIn ys t half
half_for_this {z = z} {t = t} h b ne = h t (omega (arith, b.lo)) b.hi

pub half_for_next : {ys : List ℕ} {z t : ℕ} {half : Half} → LeadingBit z t → HalfIn ys t half → HalfFor ys (z + 1) half
half_for_next {ys} {z} {t} {half} b h s lo hi = subst (λ (w : ℕ). HalfIn ys w half) (one_wire (ℕ_discrete t s)) h
  where
    one_wire : Dec (t ≡ s) → t ≡ s
    one_wire (yes e) = e
    one_wire (no ne) = absurd (go (dec_lt t s))
      where
        go : Dec (t < s) → ⊥
        go (yes l) = omega (arith, b.hi, pow_mono {i = suc t} {j = s} (omega arith))
        go (no l) = omega (arith, b.lo, pow_mono {i = suc s} {j = t} (omega arith))

-- every z below k was asked, and none of them has a legal move; k is next
pub record ScannedTo (marks ys : List ℕ) (k : ℕ) (half : Half) : Type 0 where
  pub none : NoneBelow max_members max_wires marks k
  pub half_is : HalfFor ys k half
