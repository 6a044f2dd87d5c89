-- The turns of the columns of one z: who has turn i, and that everyone who stands has one.
use mathlib.Core.List.{List}
use mathlib.Core.Logic.{◌≢◌, ◌⊎◌, inl, inr, ∥∥₁_elim}
use mathlib.Core.Path.{◌∙◌, ◌≡◌, ap, refl, sym}
use Prim.Native.Nat.{◌%◌, ◌*◌, ◌+◌, ◌-◌, ◌/◌, ◌<◌, ◌^◌, ◌≤◌, suc, zero, ℕ}
use native.Mathlib.Decide.{ℕ_discrete}
use native.Mathlib.Nat.{one-mul, zero-mul}
use native.Mathlib.Omega.{arith}
use lib.Bits.{bit_xor}
use Rattle.std.proofs.Props.{props}
use Rattle.std.specs.Prelude.{None, Option, Some}
use lib.ListN.{get_or, length}
use Rattle.circuit.specs.OddSet.{Member}
use Rattle.circuit.specs.Sound.{weight}
use Rattle.gf2.proofs.Bit.{bit-values}
use Rattle.gf2.specs.Bit.{bit}
use Rattle.moves.proofs.Sets.{in_occ, occ-in}
use Rattle.moves.specs.Pair.{Stands}
use Rattle.columns.specs.OneZ.{Had, Members, Turn, TurnOf}

-- ---- members

-- what the struct of a search keeps is all that is said of its members: a place among them is found by looking
pub members_had : {marks ys : List ℕ} → ∥ Members marks ys ∥₁ → Members marks ys
members_had {marks} {ys} h =
    record {
      sound = ∥∥₁_elim h (hlevel props) (λ m. m.sound);
      few = ∥∥₁_elim h (hlevel props) (λ m. m.few);
      member = ∥∥₁_elim h (hlevel props) (λ m. m.member);
      listed = λ y p. occ-in y ys (∥∥₁_elim h (hlevel props) (λ m. in_occ y ys (m.listed y p)));
    }

is_member : {marks ys : List ℕ} {i y : ℕ} → Members marks ys → i < length ys → y ≡ get_or ys i 0 → Member marks y
is_member {i = i} {y = y} m l e = m.member y (i, l, sym e)

-- ---- whose turn it is

-- a place and a mark w of the partner, by the turn i
by_turn : (at w n i : ℕ) → w < 2 → at + (1 - w) * n ≡ i → ((w ≡ 1) × (at ≡ i)) ⊎ ((w ≡ 0) × (at + n ≡ i))
by_turn at zero n i h e = inr (refl, omega (arith, one-mul n))
by_turn at (suc zero) n i h e = inl (refl, omega (arith, zero-mul n))
by_turn at (suc (suc w)) n i h e = absurd (omega arith)

turn_pair : (at w n : ℕ) → w ≡ 1 → at + (1 - w) * n ≡ at
turn_pair at w n e = rw e (omega (arith, zero-mul n))

turn_single : (at w n : ℕ) → w ≡ 0 → at + (1 - w) * n ≡ at + n
turn_single at w n e = rw e (omega (arith, one-mul n))

-- no one has it, or y has and no other
turn_none : {marks ys : List ℕ} {z t i : ℕ} → ((x : ℕ) → Turn marks ys z t i x → ⊥) → TurnOf marks ys z t i None
turn_none never = record { its = λ y e. cc; only = λ x T. absurd (never x T) }

turn_some : {marks ys : List ℕ} {z t i y : ℕ} → Turn marks ys z t i y → ((x : ℕ) → Turn marks ys z t i x → x ≡ y)
    → TurnOf marks ys z t i (Some y)
turn_some {y = y} its only = record { its = λ x e. let same : x ≡ y = cc in rw same its; only = λ x T. ap Some (sym (only x T)) }

module _ {marks ys : List ℕ} {z t : ℕ} (m : Members marks ys) where
  -- the first turns: y stands at place i
  module _ {i y : ℕ} (l : i < length ys) (is : y ≡ get_or ys i 0) where
    -- who has turn i is y, and has its partner
    first : (x : ℕ) → Turn marks ys z t i x → (x ≡ y) × Stands marks z t y × (weight marks (bit_xor y z) ≡ 1)
    first x T = go (by_turn T.at (weight marks (bit_xor x z)) (length ys) i (m.sound.bits (bit_xor x z)) T.turn)
      where
        go : ((weight marks (bit_xor x z) ≡ 1) × (T.at ≡ i)) ⊎ ((weight marks (bit_xor x z) ≡ 0) × (T.at + length ys ≡ i))
            → (x ≡ y) × Stands marks z t y × (weight marks (bit_xor y z) ≡ 1)
        go (inl p) =
            let e : x ≡ y = sym T.is ∙ ap (λ (k : ℕ). get_or ys k 0) p.1 ∙ sym is in
            (e, rw e at T.stands, rw e at p.0)
        go (inr p) = absurd (omega (arith, T.inside, p.1))

    -- y names t, and its partner goes for it, or it has none
    pub turn_with_wire : y / 2 ^ t % 2 ≡ 1 → TurnOf marks ys z t i None
    unfolding bit
    turn_with_wire on = turn_none (λ x T. let f = first x T in f.1.alone on f.2)

    -- it has none
    pub turn_alone : {r : ℕ} → r ≡ weight marks (bit_xor y z) → r ≡ 0 → TurnOf marks ys z t i None
    turn_alone mark none = turn_none (λ x T. omega (arith, mark, (first x T).2))

    -- it is one of a pair
    pub turn_of_pair : {r : ℕ} → y / 2 ^ t % 2 ≢ 1 → r ≡ weight marks (bit_xor y z) → r ≢ 0 → TurnOf marks ys z t i (Some y)
    unfolding bit
    turn_of_pair off mark some =
        let w : weight marks (bit_xor y z) ≡ 1 = omega (arith, m.sound.bits (bit_xor y z)) in
        turn_some
        (record {
          stands = record { member = is_member m l is; alone = λ on. absurd (off on) };
          at = i;
          inside = l;
          is = sym is;
          turn = turn_pair i (weight marks (bit_xor y z)) (length ys) w;
        })
        (λ x T. (first x T).0)

  -- the others: y stands at place i - length ys
  module _ {i y : ℕ} (l : i - length ys < length ys) (from : length ys ≤ i) (is : y ≡ get_or ys (i - length ys) 0) where
    second : (x : ℕ) → Turn marks ys z t i x → (x ≡ y) × (weight marks (bit_xor y z) ≡ 0)
    second x T = go (by_turn T.at (weight marks (bit_xor x z)) (length ys) i (m.sound.bits (bit_xor x z)) T.turn)
      where
        go : ((weight marks (bit_xor x z) ≡ 1) × (T.at ≡ i)) ⊎ ((weight marks (bit_xor x z) ≡ 0) × (T.at + length ys ≡ i))
            → (x ≡ y) × (weight marks (bit_xor y z) ≡ 0)
        go (inl p) = absurd (omega (arith, T.inside, p.1))
        go (inr p) =
            let k : T.at ≡ i - length ys = omega (arith, p.1) in
            let e : x ≡ y = sym T.is ∙ ap (λ (k : ℕ). get_or ys k 0) k ∙ sym is in
            (e, rw e at p.0)

    -- it has none
    pub turn_of_single : {r : ℕ} → r ≡ weight marks (bit_xor y z) → r ≢ 1 → TurnOf marks ys z t i (Some y)
    turn_of_single mark none =
        let w : weight marks (bit_xor y z) ≡ 0 = omega (arith, m.sound.bits (bit_xor y z)) in
        turn_some
        (record {
          stands = record { member = is_member m l is; alone = λ on p. omega (arith, w) };
          at = i - length ys;
          inside = l;
          is = sym is;
          turn = turn_single (i - length ys) (weight marks (bit_xor y z)) (length ys) w ∙ omega arith;
        })
        (λ x T. (second x T).0)

  -- everyone who stands has a turn
  pub had_all : (y : ℕ) → Stands marks z t y → Had marks ys z t (2 * length ys) y
  had_all y s = go (bit-values (weight marks (bit_xor y z)) (m.sound.bits (bit_xor y z)))
    where
      i : ℕ
      i = (m.listed y s.member).0

      l : i < length ys
      l = (m.listed y s.member).1

      go : (weight marks (bit_xor y z) ≡ 0) ⊎ (weight marks (bit_xor y z) ≡ 1) → Had marks ys z t (2 * length ys) y
      go (inl e) = (
        i + length ys,
        omega (arith, l),
        record {
          stands = s;
          at = i;
          inside = l;
          is = (m.listed y s.member).2;
          turn = turn_single i (weight marks (bit_xor y z)) (length ys) e;
        },
      )
      go (inr e) = (
        i,
        omega (arith, l),
        record {
          stands = s;
          at = i;
          inside = l;
          is = (m.listed y s.member).2;
          turn = turn_pair i (weight marks (bit_xor y z)) (length ys) e;
        },
      )

-- ---- the turns before i

module _ {marks ys : List ℕ} {z t i : ℕ} where
  pub had_stands : (y : ℕ) → Had marks ys z t i y → Stands marks z t y
  had_stands y h = h.2.stands

  pub had_wider : (y : ℕ) → Had marks ys z t i y → Had marks ys z t (i + 1) y
  had_wider y h = (h.0, omega (arith, h.1), h.2)

  module _ {r : Option ℕ} (T : TurnOf marks ys z t i r) where
    -- the next one, or one before
    pub had_last : (y : ℕ) → Had marks ys z t (i + 1) y → Had marks ys z t i y ⊎ (r ≡ Some y)
    had_last y h = go (ℕ_discrete h.0 i)
      where
        go : Dec (h.0 ≡ i) → Had marks ys z t i y ⊎ (r ≡ Some y)
        go (yes e) = inr (T.only y (rw e at h.2))
        go (no ne) = inl (h.0, omega (arith, h.1), h.2)

    pub had_new : (y : ℕ) → r ≡ Some y → Had marks ys z t (i + 1) y
    had_new y is = (i, omega arith, T.its y is)

    -- where no one has turn i, those before i + 1 are those before i
    pub had_none : r ≡ None → (y : ℕ) → Had marks ys z t (i + 1) y → Had marks ys z t i y
    had_none none y h = go (had_last y h)
      where
        go : Had marks ys z t i y ⊎ (r ≡ Some y) → Had marks ys z t i y
        go (inl p) = p
        go (inr e) = cc
