-- What the finder's echelon says of a column that came down to 0: the slots and the column itself name a set whose columns xor to 0. If it
-- has one of a pair, it is, mended, the set of a legal move with this z; if not, the column is a combination together with its tag.
use mathlib.Core.List.{List, map}
use mathlib.Core.Logic.{◌≢◌, ◌⊎◌, inl, inr}
use mathlib.Core.Path.{◌∙◌, ◌≡◌, ap, ap₂, refl, subst, sym}
use Prim.Native.Nat.{◌%◌, ◌*◌, ◌+◌, ◌<◌, ◌^◌, ◌≤◌, suc, zero, ℕ}
use native.Mathlib.Decide.{ℕ_discrete}
use native.Mathlib.Nat.{le_refl, zero-mul}
use native.Mathlib.Omega.{arith}
use lib.Bits.{bit_xor, xor_comm, xor_self, xor_zero_r}
use lib.ListN.{get_or, length, length-map, length-set}
use lib.Seq.{get_or-set_other, get_or-set_same}
use Rattle.circuit.specs.OddSet.{Member}
use Rattle.circuit.specs.Sound.{SoundMarks, weight}
use Rattle.gf2.proofs.Basis.{members_allowed, members_combine, members_had}
use Rattle.gf2.proofs.Bit.{bit-lt, bit-of_zero, bit-values, bit-xor}
use Rattle.gf2.proofs.Combination.{combine-whole}
use Rattle.gf2.proofs.Over.{map_same, xor_all-none}
use Rattle.gf2.proofs.Pairing.{xor_equal, xor_nonzero}
use Rattle.gf2.proofs.Xor.{xor_cancel}
use Rattle.gf2.specs.Bit.{bit}
use Rattle.gf2.specs.Echelon.{Basis, Reached, SpanBoth, by_members}
use Rattle.gf2.specs.Over.{Below, xor_all}
use Rattle.gf2.specs.Selection.{combine}
use Rattle.gf2.specs.Sum.{sum}
use Rattle.moves.proofs.Bars.{column_partner, xor_zero_or_z}
use Rattle.moves.proofs.Flips.{flip_bits}
use Rattle.moves.proofs.Keep.{member_lt}
use Rattle.moves.proofs.Naming.{Room, flipped_few, flipped_off, flipped_xor, named_bits, named_few, named_from}
use Rattle.moves.proofs.Naming.{named_length, named_xor}
use Rattle.moves.proofs.Pairs.{legal_listed}
use Rattle.moves.proofs.Sets.{listed_in}
use Rattle.moves.specs.CarryOut.{flip}
use Rattle.moves.specs.Column.{column}
use Rattle.moves.specs.Move.{Legal}
use Rattle.moves.specs.Pair.{PairIn, Stands, mended, named, named_with, pair_tag}
use Rattle.moves.specs.Sets.{listed}

-- the set by its marks
abbrev set_of : ℕ → List ℕ → List ℕ
set_of size w = listed size (λ p. get_or w p 0)

pub mended_some : (x z y : ℕ) (w : List ℕ) → x ≢ 0 → mended x z y w ≡ flip (flip w y) (bit_xor y z)
unfolding mended
mended_some zero z y w ne = absurd (ne refl)
mended_some (suc x) z y w ne = refl

pub mended_none : (z y : ℕ) (w : List ℕ) → mended 0 z y w ≡ w
unfolding mended
mended_none z y w = refl

-- ---- a set w of members that stand, whose columns xor to 0

module _ (size n most : ℕ) (room : 2 ^ n ≤ size) (marks : List ℕ) (sound : SoundMarks size n marks) (z t : ℕ)
    (t_lt : t < n) (z_lt : z < 2 ^ n) (z_t : bit z t ≡ 1) (w : List ℕ) (long : length w ≡ size) (two : (p : ℕ) → get_or w p 0 < 2)
    (stands : (p : ℕ) → get_or w p 0 ≡ 1 → Stands marks z t p) (zeroes : xor_all (map (column n z t) (set_of size w)) ≡ 0)
    (few : sum size (λ p. get_or w p 0) ≤ most) where
  z_some : z ≢ 0
  z_some e = let q : bit z t ≡ 0 = rw e (bit-of_zero t) in omega arith

  -- its xor is 0, or z
  which : (xor_all (set_of size w) ≡ 0) ⊎ (xor_all (set_of size w) ≡ z)
  which = xor_zero_or_z z t z_t n z_lt (set_of size w) below zeroes
    where
      below : Below (2 ^ n) (listed size (λ p. get_or w p 0))
      below i l =
          member_lt size n marks sound (get_or (set_of size w) i 0)
          (stands (get_or (set_of size w) i 0) (listed_in (λ p. get_or w p 0) two size (get_or (set_of size w) i 0) (i, l, refl))).member

  -- y has its partner, which is not in the set
  module _ (y : ℕ) (pair : PairIn marks z w y) where
    abbrev b : ℕ
    b = bit_xor y z

    y_member : Member marks y
    y_member = (stands y pair.on).member

    back : bit_xor b z ≡ y
    back = xor_cancel y z

    partner_out : get_or w b 0 ≡ 0
    partner_out = go (bit-values (get_or w b 0) (two b))
      where
        go : (get_or w (bit_xor y z) 0 ≡ 0) ⊎ (get_or w (bit_xor y z) 0 ≡ 1) → get_or w (bit_xor y z) 0 ≡ 0
        go (inl e) = e
        go (inr e) =
            absurd (both (bit-values (bit y t) (bit-lt y t)))
          where
            turned : bit (bit_xor y z) t ≡ (bit y t + 1) % 2
            turned = bit-xor y z t ∙ ap (λ (x : ℕ). (bit y t + x) % 2) z_t

            both : (bit y t ≡ 0) ⊎ (bit y t ≡ 1) → ⊥
            both (inl f) = (stands (bit_xor y z) e).alone (turned ∙ rw f) (rw back y_member)
            both (inr f) = (stands y pair.on).alone f pair.partner

    y_fits : y < size
    y_fits = omega (arith, member_lt size n marks sound y y_member)

    b_fits : b < size
    b_fits = omega (arith, member_lt size n marks sound b pair.partner)

    -- its xor is 0: it is the set of a legal move
    legal_as_is : xor_all (set_of size w) ≡ 0 → Legal most n marks z (set_of size w)
    legal_as_is e =
        legal_listed size n most room marks sound z t t_lt z_t (λ p. get_or w p 0) two (λ p h. (stands p h).member) y pair.on partner_out
        pair.partner few e zeroes

    -- it is z: y gives place to its partner
    abbrev w₁ : List ℕ
    w₁ = flip w y

    abbrev w₂ : List ℕ
    w₂ = flip (flip w y) (bit_xor y z)

    apart : b ≢ y
    apart = xor_nonzero y z z_some

    long₁ : length w₁ ≡ size
    long₁ = length-set w y ((get_or w y 0 + 1) % 2) ∙ long

    two₁ : (p : ℕ) → get_or w₁ p 0 < 2
    two₁ p = flip_bits w y p (two p)

    two₂ : (p : ℕ) → get_or w₂ p 0 < 2
    two₂ p = flip_bits w₁ b p (two₁ p)

    y_off : get_or w₁ y 0 ≡ 0
    y_off = get_or-set_same w y ((get_or w y 0 + 1) % 2) 0 (rw long y_fits) ∙ rw pair.on

    b_off : get_or w₁ b 0 ≡ 0
    b_off = get_or-set_other w y b ((get_or w y 0 + 1) % 2) 0 apart ∙ partner_out

    on₂ : get_or w₂ b 0 ≡ 1
    on₂ = get_or-set_same w₁ b ((get_or w₁ b 0 + 1) % 2) 0 (rw long₁ b_fits) ∙ rw b_off

    off₂ : (p : ℕ) → p ≢ b → get_or w₂ p 0 ≡ get_or w₁ p 0
    off₂ p ne = get_or-set_other w₁ b p ((get_or w₁ b 0 + 1) % 2) 0 ne

    member₂ : (p : ℕ) → get_or w₂ p 0 ≡ 1 → Member marks p
    member₂ p e = go (ℕ_discrete p b) (ℕ_discrete p y)
      where
        go : Dec (p ≡ bit_xor y z) → Dec (p ≡ y) → Member marks p
        go (yes q) d = rw q pair.partner
        go (no q) (yes d) = absurd (omega (arith, off₂ p q, ap (λ (k : ℕ). get_or w₁ k 0) d, y_off))
        go (no q) (no d) =
            (stands p (sym (get_or-set_other w y p ((get_or w y 0 + 1) % 2) 0 d) ∙ sym (off₂ p q) ∙ e)).member

    few₂ : sum size (λ p. get_or w₂ p 0) ≤ most
    few₂ =
        let off : sum size (λ p. get_or w₁ p 0) + 1 ≡ sum size (λ p. get_or w p 0) =
        subst (λ (k : ℕ). sum k (λ p. get_or (flip w y) p 0) + 1 ≡ sum k (λ p. get_or w p 0)) long
        (flipped_off w y (rw long y_fits) pair.on) in
        let on : sum size (λ p. get_or w₂ p 0) ≤ sum size (λ p. get_or w₁ p 0) + 1 =
        subst (λ (k : ℕ). sum k (λ p. get_or (flip w₁ b) p 0) ≤ sum k (λ p. get_or w₁ p 0) + 1) long₁
        (flipped_few w₁ b (rw long₁ b_fits)) in
        omega (arith, few)

    all₂ : (v : ℕ → ℕ) → xor_all (map v (set_of size w₂)) ≡ bit_xor (v b) (bit_xor (v y) (xor_all (map v (set_of size w))))
    all₂ v =
        flipped_xor size v w₁ b long₁ two₁ b_fits ∙ ap (bit_xor (v b)) (flipped_xor size v w y long two y_fits)

    -- z, and the two partners
    none_left : (y z : ℕ) → bit_xor (bit_xor y z) (bit_xor y z) ≡ 0
    none_left y z = xor_self (bit_xor y z)

    legal_mended : xor_all (set_of size w) ≡ z → Legal most n marks z (set_of size w₂)
    legal_mended e =
        legal_listed size n most room marks sound z t t_lt z_t (λ p. get_or w₂ p 0) two₂ member₂ b on₂
        (ap (λ (k : ℕ). get_or w₂ k 0) back ∙ off₂ y (λ q. apart (sym q)) ∙ y_off) (rw back y_member) few₂
        (ap xor_all (sym (map_same (set_of size w₂))) ∙ all₂ (λ p. p)
        ∙ ap (λ (x : ℕ). bit_xor (bit_xor y z) (bit_xor y x)) (ap xor_all (map_same (set_of size w)) ∙ e) ∙ xor_self (bit_xor y z))
        (all₂ (column n z t)
        ∙ ap₂ (λ (p q : ℕ). bit_xor p (bit_xor (column n z t y) q)) (column_partner z t z_t n y) zeroes
        ∙ rw (xor_zero_r (column n z t y)) (xor_self (column n z t y)))

    pub set-legal : Legal most n marks z (set_of size (mended (xor_all (set_of size w)) z y w))
    unfolding mended
    set-legal = go which
      where
        go : (xor_all (listed size (λ p. get_or w p 0)) ≡ 0) ⊎ (xor_all (listed size (λ p. get_or w p 0)) ≡ z)
            → Legal most n marks z (listed size (λ p. get_or (mended (xor_all (listed size (λ p. get_or w p 0))) z y w) p 0))
        go (inl e) = rw e (legal_as_is e)
        go (inr e) = rw (e, mended_some z z y w z_some) (legal_mended e)

-- ---- the set that the slots name with a, whose column came down to 0

module _ (size n : ℕ) (room : 2 ^ n ≤ size) (marks : List ℕ) (sound : SoundMarks size n marks) (z t : ℕ) (N : ℕ)
    (P : ℕ → Type 0) (stands : (y : ℕ) → P y → Stands marks z t y) (vec by member : List ℕ)
    (basis : Basis N P (column n z t) (pair_tag marks z) vec by member) (member_long : length member ≡ N)
    (a : ℕ) (a_stands : Stands marks z t a)
    (used : ℕ) (reached : Reached vec (column n z t a) 0 used) where
  abbrev m : ℕ
  m = by_members by used N

  allowed : (j : ℕ) → bit m j ≡ 1 → P (get_or member j 0)
  allowed = members_allowed N (column n z t) (pair_tag marks z) P vec by member basis member_long (column n z t a) used reached

  combines : combine m (map (column n z t) member) ≡ column n z t a
  combines = members_combine N (column n z t) (pair_tag marks z) P vec by member basis member_long (column n z t a) used reached

  member_fits : (y : ℕ) → Stands marks z t y → y < size
  member_fits y h = omega (arith, member_lt size n marks sound y h.member)

  fits : Room size member m N
  fits j l e = member_fits (get_or member j 0) (stands (get_or member j 0) (allowed j e))

  abbrev w₀ : List ℕ
  w₀ = named size member m N

  abbrev w : List ℕ
  w = named_with size member m N a

  long₀ : length w₀ ≡ size
  long₀ = named_length size member m N

  long : length w ≡ size
  long = length-set w₀ a ((get_or w₀ a 0 + 1) % 2) ∙ long₀

  two : (p : ℕ) → get_or w p 0 < 2
  two p = flip_bits w₀ a p (named_bits size member m N p)

  a_fits : a < size
  a_fits = member_fits a a_stands

  all_stand : (p : ℕ) → get_or w p 0 ≡ 1 → Stands marks z t p
  all_stand p e = go (ℕ_discrete p a)
    where
      go : Dec (p ≡ a) → Stands marks z t p
      go (yes q) = rw q a_stands
      go (no ne) =
          let s = named_from size member m N p (λ q. omega (arith, get_or-set_other w₀ a p ((get_or w₀ a 0 + 1) % 2) 0 ne)) in
          subst (Stands marks z t) s.3 (stands (get_or member s.0 0) (allowed s.0 s.2))

  -- the xor of v over the set
  over_set : (v : ℕ → ℕ) → xor_all (map v (set_of size w)) ≡ bit_xor (v a) (combine m (map v member))
  over_set v =
      flipped_xor size v w₀ a long₀ (named_bits size member m N) a_fits
      ∙ ap (bit_xor (v a))
      (named_xor size member m v N (rw member_long (le_refl _)) fits
      ∙ ap (λ (k : ℕ). combine (m % 2 ^ k) (map v member)) (sym (length-map member v ∙ member_long)) ∙ combine-whole m (map v member))

  zeroes : xor_all (map (column n z t) (set_of size w)) ≡ 0
  zeroes = over_set (column n z t) ∙ ap (bit_xor (column n z t a)) combines ∙ xor_self (column n z t a)

  few : sum size (λ p. get_or w p 0) ≤ N + 1
  few =
      omega (
        arith,
        named_few size member m N fits,
        subst (λ (k : ℕ). sum k (λ p. get_or w p 0) ≤ sum k (λ p. get_or w₀ p 0) + 1) long₀ (flipped_few w₀ a (rw long₀ a_fits)),
      )

  -- it has one of a pair
  pub found : (most : ℕ) → N + 1 ≤ most → t < n → z < 2 ^ n → bit z t ≡ 1 → (y : ℕ) → PairIn marks z w y
      → Legal most n marks z (set_of size (mended (bit_xor (combine m member) a) z y w))
  found most enough t_lt z_lt z_t y pair =
      subst (λ (x : ℕ). Legal most n marks z (set_of size (mended x z y w))) total
      (set-legal size n most room marks sound z t t_lt z_lt z_t w long two all_stand zeroes (omega (arith, few)) y pair)
    where
      total : xor_all (set_of size w) ≡ bit_xor (combine m member) a
      total =
          ap xor_all (sym (map_same (set_of size w))) ∙ over_set (λ y. y) ∙ ap (λ (l : List ℕ). bit_xor a (combine m l)) (map_same member)
          ∙ xor_comm a (combine m member)

  -- it has none: then its tags are 0
  pub passed : ((y : ℕ) → PairIn marks z w y → ⊥) → SpanBoth vec basis.covers.tag (column n z t a) (pair_tag marks z a)
  unfolding pair_tag
  passed none =
      members_had N (column n z t) (pair_tag marks z) P vec by member basis member_long (column n z t a) used reached (pair_tag marks z a)
      (sym (xor_equal (pair_tag marks z a) (combine m (map (pair_tag marks z) member)) (sym (over_set (pair_tag marks z)) ∙ no_tags)))
    where
      untagged : (y : ℕ) → get_or w y 0 ≡ 1 → pair_tag marks z y ≡ 0
      untagged y e = go (bit-values (weight marks (bit_xor y z)) (sound.bits (bit_xor y z)))
        where
          go : (weight marks (bit_xor y z) ≡ 0) ⊎ (weight marks (bit_xor y z) ≡ 1) → weight marks (bit_xor y z) * 2 ^ y ≡ 0
          go (inl f) = rw f (zero-mul (2 ^ y))
          go (inr f) = absurd (none y (record { on = e; partner = f }))

      no_tags : xor_all (map (pair_tag marks z) (set_of size w)) ≡ 0
      no_tags =
          xor_all-none (pair_tag marks z) (set_of size w)
          (λ i l. untagged (get_or (set_of size w) i 0) (listed_in (λ p. get_or w p 0) two size (get_or (set_of size w) i 0) (i, l, refl)))
