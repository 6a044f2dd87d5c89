-- For one z: a set whose columns xor to 0, and which has one of a pair, gives a legal move with this z; and where columns that xor to 0
-- have tags that do, no move with this z is legal.
use mathlib.Core.List.{List, map}
use mathlib.Core.Logic.{◌≢◌, ◌⊎◌, inl, inr}
use mathlib.Core.Path.{◌∙◌, ◌≡◌, ap, refl, sym}
use Prim.Native.Nat.{◌%◌, ◌*◌, ◌+◌, ◌-◌, ◌<◌, ◌^◌, ◌≤◌, suc, zero, ℕ}
use native.Mathlib.Decide.{ℕ_discrete}
use native.Mathlib.Nat.{mul_comm, mul-zero}
use native.Mathlib.Omega.{arith}
use lib.Bits.{bit_xor, xor_self, xor_zero_l}
use lib.ListN.{get_or, length}
use Rattle.circuit.specs.OddSet.{Member}
use Rattle.circuit.specs.Sound.{SoundMarks, weight}
use Rattle.gf2.proofs.Bit.{bit-eq, bit-lt, bit-of_zero, bit-pow_other, bit-pow_same, bit-scale, bit-values, bit-xor, mul_lt}
use Rattle.gf2.proofs.Over.{xor_all-map_bit}
use Rattle.gf2.proofs.Sum.{sum-add, sum-ext, sum-mod, sum-single, sum-xor}
use Rattle.gf2.proofs.Xor.{xor_assoc, xor_cancel}
use Rattle.gf2.specs.Bit.{bit}
use Rattle.gf2.specs.Over.{sum_over, xor_all}
use Rattle.gf2.specs.Sum.{sum}
use Rattle.moves.proofs.Bars.{column_partner}
use Rattle.moves.proofs.Keep.{a_member, member_lt, y_lt, z_lt}
use Rattle.moves.proofs.OneXor.{balanced_iff}
use Rattle.moves.proofs.Sets.{in_listed, in_occ, listed_ascending, listed_in, listed_length, listed_occ, listed_sum}
use Rattle.moves.proofs.Sets.{occ, occ-in, occ-once, occ-out, out_occ, rising, sum_over-occ}
use Rattle.moves.specs.Column.{column}
use Rattle.moves.specs.Move.{Legal}
use Rattle.moves.specs.Pair.{Stands, pair_tag}
use Rattle.moves.specs.Sets.{In, listed}

-- the partner of the partner
pub partner_back : (x z : ℕ) → bit_xor x (bit_xor x z) ≡ z
partner_back x z = sym (xor_assoc x x z) ∙ ap (λ (y : ℕ). bit_xor y z) (xor_self x) ∙ xor_zero_l z

-- ---- a set of members, given by marks, whose xor is 0 and whose columns xor to 0

module _ (size n most : ℕ) (room : 2 ^ n ≤ size) (marks : List ℕ) (sound : SoundMarks size n marks) (z t : ℕ)
    (t_lt : t < n) (z_t : bit z t ≡ 1) (g : ℕ → ℕ) (two : (p : ℕ) → g p < 2) (only_members : (p : ℕ) → g p ≡ 1 → Member marks p)
    (x : ℕ) (on : g x ≡ 1) (off : g (bit_xor x z) ≡ 0) (partner : Member marks (bit_xor x z)) where
  member : (y : ℕ) → In y (listed size g) → Member marks y
  member y i = only_members y (listed_in g two size y i)

  fits : (p : ℕ) → Member marks p → p < size
  fits p m = omega (arith, member_lt size n marks sound p m)

  -- it has x and not its partner: a legal move
  pub legal_listed : sum size g ≤ most → xor_all (listed size g) ≡ 0 → xor_all (map (column n z t) (listed size g)) ≡ 0
      → Legal most n marks z (listed size g)
  legal_listed few zero_xor zeroes =
      record {
        few = omega (arith, listed_length g two size);
        ordered = listed_ascending size g;
        marked = member;
        separates =
            record {
              a = x;
              b = bit_xor x z;
              a_in = in_listed g two size x (fits x (only_members x on)) on;
              b_member = partner;
              b_out = out_occ (bit_xor x z) (listed size g) (listed_occ g two size (bit_xor x z) (fits (bit_xor x z) partner) ∙ off);
              z_is = sym (partner_back x z);
            };
        balanced = (balanced_iff n z t t_lt z_t (listed size g)).1 (zero_xor, zeroes);
      }

-- ---- a legal move, brought to singles and one of each pair

-- a number p with mark m and its partner with mark m', of which Y has o; l is 1 where p is the smaller, l' where it is the larger
split : (o m m' l l' c : ℕ) → o ≤ m → m < 2 → m' < 2 → l + l' ≡ 1
    → o * c ≡ o * (1 - m') * c + (m * m' * l * (o * c) + m * m' * l' * (o * c))
split zero m m' l l' c h hm h' e = omega arith
split (suc zero) zero m' l l' c h hm h' e = absurd (omega arith)
split (suc zero) (suc zero) zero l l' c h hm h' e = omega arith
split (suc zero) (suc zero) (suc zero) zero l' c h hm h' e = let q : l' ≡ 1 = omega arith in rw q (omega arith)
split (suc zero) (suc zero) (suc zero) (suc l) l' c h hm h' e =
    let p : l ≡ 0 = omega arith in
    let q : l' ≡ 0 = omega arith in
    rw (p, q) (omega arith)
split (suc zero) (suc zero) (suc (suc m')) l l' c h hm h' e = absurd (omega arith)
split (suc zero) (suc (suc m)) m' l l' c h hm h' e = absurd (omega arith)
split (suc (suc o)) m m' l l' c h hm h' e = absurd (omega arith)

-- what is kept of p: itself where its partner is no member; where it is the smaller of a pair, the xor of the two
pub kept : ℕ → ℕ → ℕ → ℕ → ℕ → ℕ
kept o o' m m' l = o * (1 - m') + m * m' * l * ((o + o') % 2)

kept_two : (o o' m m' l : ℕ) → o ≤ m → m < 2 → m' < 2 → l < 2 → kept o o' m m' l < 2
unfolding kept
kept_two o o' zero m' l h hm h' hl = let q : o ≡ 0 = omega arith in rw q (omega arith)
kept_two o o' (suc zero) zero l h hm h' hl = omega arith
kept_two o o' (suc zero) (suc zero) zero h hm h' hl = omega arith
kept_two o o' (suc zero) (suc zero) (suc zero) h hm h' hl = omega arith
kept_two o o' (suc zero) (suc zero) (suc (suc l)) h hm h' hl = absurd (omega arith)
kept_two o o' (suc zero) (suc (suc m')) l h hm h' hl = absurd (omega arith)
kept_two o o' (suc (suc m)) m' l h hm h' hl = absurd (omega arith)

-- it is a single of Y, or a pair
kept_which : (o o' m m' l : ℕ) → o ≤ m → m < 2 → m' < 2 → l < 2 → kept o o' m m' l ≡ 1
    → ((m ≡ 1) × (m' ≢ 1)) ⊎ ((m ≡ 1) × (m' ≡ 1) × (l ≡ 1))
unfolding kept
kept_which o o' zero m' l h hm h' hl e = let q : o ≡ 0 = omega arith in absurd (none (rw q at e))
  where
    none : 0 * (1 - m') + 0 * m' * l * ((0 + o') % 2) ≡ 1 → ⊥
    none f = omega arith
kept_which o o' (suc zero) zero l h hm h' hl e = inl (refl, λ q. omega arith)
kept_which o o' (suc zero) (suc zero) zero h hm h' hl e = absurd (omega arith)
kept_which o o' (suc zero) (suc zero) (suc zero) h hm h' hl e = inr (refl, refl, refl)
kept_which o o' (suc zero) (suc zero) (suc (suc l)) h hm h' hl e = absurd (omega arith)
kept_which o o' (suc zero) (suc (suc m')) l h hm h' hl e = absurd (omega arith)
kept_which o o' (suc (suc m)) m' l h hm h' hl e = absurd (omega arith)

kept_term : (x M o o' c : ℕ) → M < 2 → c < 2 → (x * c + (M * (o * c) + M * (o' * c))) % 2 ≡ (x + M * ((o + o') % 2)) * c % 2
kept_term x zero o o' c h hc = ap (λ (a : ℕ). a % 2) (omega arith)
kept_term x (suc zero) o o' zero h hc = ap (λ (a : ℕ). a % 2) (omega arith)
kept_term x (suc zero) o o' (suc zero) h hc = omega arith
kept_term x (suc zero) o o' (suc (suc c)) h hc = absurd (omega arith)
kept_term x (suc (suc M)) o o' c h hc = absurd (omega arith)

-- one legal move; l is 1 for one of each two partners, and 0 for the other
module _ (size n most : ℕ) (room : 2 ^ n ≤ size) (marks : List ℕ) (sound : SoundMarks size n marks) (z t : ℕ)
    (t_lt : t < n) (z_t : bit z t ≡ 1) (Y : List ℕ) (legal : Legal most n marks z Y) (l : ℕ → ℕ)
    (one : (p : ℕ) → l p + l (bit_xor p z) ≡ 1) where
  -- what is kept of the move
  abbrev pub r : ℕ → ℕ
  r p = kept (occ p Y) (occ (bit_xor p z) Y) (weight marks p) (weight marks (bit_xor p z)) (l p)

  l_two : (p : ℕ) → l p < 2
  l_two p = omega (arith, one p)

  o_le : (p : ℕ) → occ p Y ≤ weight marks p
  o_le p = go (occ p Y) refl
    where
      go : (k : ℕ) → occ p Y ≡ k → k ≤ weight marks p
      go zero e = omega arith
      go (suc k) e = omega (arith, occ-once 0 p Y (rising Y legal.ordered), legal.marked p (occ-in p Y (omega arith)))

  pub r_two : (p : ℕ) → r p < 2
  r_two p =
      kept_two (occ p Y) (occ (bit_xor p z) Y) (weight marks p) (weight marks (bit_xor p z)) (l p) (o_le p) (sound.bits p)
      (sound.bits (bit_xor p z)) (l_two p)

  -- it is a member without its partner, or one of a pair
  pub r_which : (p : ℕ) → r p ≡ 1
      → (Member marks p × (Member marks (bit_xor p z) → ⊥)) ⊎ (Member marks p × Member marks (bit_xor p z) × (l p ≡ 1))
  r_which p =
      kept_which (occ p Y) (occ (bit_xor p z) Y) (weight marks p) (weight marks (bit_xor p z)) (l p) (o_le p) (sound.bits p)
      (sound.bits (bit_xor p z)) (l_two p)

  -- a bit that partners share
  module _ (c : ℕ → ℕ) (two_c : (p : ℕ) → c p < 2) (same : (p : ℕ) → c (bit_xor p z) ≡ c p) where
    abbrev alone : ℕ → ℕ
    alone p = occ p Y * (1 - weight marks (bit_xor p z)) * c p

    -- one of a pair, the other, and the other in the place of the one
    abbrev first : ℕ → ℕ
    first p = weight marks p * weight marks (bit_xor p z) * l p * (occ p Y * c p)

    abbrev second : ℕ → ℕ
    second p = weight marks p * weight marks (bit_xor p z) * l (bit_xor p z) * (occ p Y * c p)

    abbrev turned : ℕ → ℕ
    turned p = weight marks p * weight marks (bit_xor p z) * l p * (occ (bit_xor p z) Y * c p)

    apart : sum (2 ^ n) (λ p. occ p Y * c p) ≡ sum (2 ^ n) alone + (sum (2 ^ n) first + sum (2 ^ n) second)
    apart =
        sum-ext (2 ^ n) (λ p. occ p Y * c p) (λ p. alone p + (first p + second p))
        (λ p h.
        split (occ p Y) (weight marks p) (weight marks (bit_xor p z)) (l p) (l (bit_xor p z)) (c p) (o_le p) (sound.bits p)
        (sound.bits (bit_xor p z)) (one p))
        ∙ sum-add (2 ^ n) alone (λ p. first p + second p) ∙ ap (λ (x : ℕ). sum (2 ^ n) alone + x) (sum-add (2 ^ n) first second)

    second_turned : sum (2 ^ n) turned ≡ sum (2 ^ n) second
    second_turned =
        sum-ext (2 ^ n) turned (λ p. second (bit_xor p z)) (λ p h. at p)
        ∙ sum-xor n z second (z_lt size n most room marks sound z Y legal)
      where
        at : (p : ℕ) → weight marks p * weight marks (bit_xor p z) * l p * (occ (bit_xor p z) Y * c p)
            ≡ weight marks (bit_xor p z) * weight marks (bit_xor (bit_xor p z) z) * l (bit_xor (bit_xor p z) z)
            * (occ (bit_xor p z) Y * c (bit_xor p z))
        at p =
            rw (xor_cancel p z, same p) (swap (weight marks p) (weight marks (bit_xor p z)) (l p) (occ (bit_xor p z) Y * c p))
          where
            swap : (a b d e : ℕ) → a * b * d * e ≡ b * a * d * e
            swap a b d e = ap (λ (x : ℕ). x * d * e) (mul_comm a b)

    together : sum (2 ^ n) (λ p. alone p + (first p + turned p)) ≡ sum (2 ^ n) alone + (sum (2 ^ n) first + sum (2 ^ n) second)
    together =
        sum-add (2 ^ n) alone (λ p. first p + turned p)
        ∙ ap (λ (x : ℕ). sum (2 ^ n) alone + x)
        (sum-add (2 ^ n) first turned ∙ ap (λ (x : ℕ). sum (2 ^ n) first + x) second_turned)

    term : (p : ℕ) → (alone p + (first p + turned p)) % 2 ≡ r p * c p % 2
    unfolding kept
    term p =
        kept_term (occ p Y * (1 - weight marks (bit_xor p z))) (weight marks p * weight marks (bit_xor p z) * l p) (occ p Y)
        (occ (bit_xor p z) Y) (c p)
        (mul_lt (weight marks p * weight marks (bit_xor p z)) (l p)
        (mul_lt (weight marks p) (weight marks (bit_xor p z)) (sound.bits p) (sound.bits (bit_xor p z))) (l_two p)) (two_c p)

    -- its sum over Y is, modulo 2, that over what is kept
    sums : sum_over c Y % 2 ≡ sum_over c (listed (2 ^ n) r) % 2
    sums =
        ap (λ (x : ℕ). x % 2) (sum_over-occ (2 ^ n) c Y (y_lt size n most room marks sound z Y legal) ∙ apart ∙ sym together)
        ∙ sum-mod 2 (2 ^ n) (λ p. alone p + (first p + turned p)) (λ p. r p * c p) (λ p h. term p)
        ∙ ap (λ (x : ℕ). x % 2) (sym (listed_sum r r_two (2 ^ n) c))

  pub columns_zero : xor_all (map (column n z t) (listed (2 ^ n) r)) ≡ 0
  columns_zero =
      bit-eq _ _ (λ u.
      xor_all-map_bit (column n z t) u (listed (2 ^ n) r)
      ∙ sym (sums (λ y. bit (column n z t y) u) (λ p. bit-lt (column n z t p) u)
      (λ p. ap (λ (x : ℕ). bit x u) (column_partner z t z_t n p)))
      ∙ sym (xor_all-map_bit (column n z t) u Y)
      ∙ ap (λ (x : ℕ). bit x u) ((balanced_iff n z t t_lt z_t Y).0 legal.balanced).1)

  open legal.separates use {a, b, a_in, b_member, b_out, z_is}

  a_to_b : bit_xor a z ≡ b
  a_to_b = ap (bit_xor a) z_is ∙ partner_back a b

  b_to_a : bit_xor b z ≡ a
  b_to_a = ap (λ (x : ℕ). bit_xor x z) (sym a_to_b) ∙ xor_cancel a z

  occ-a : occ a Y ≡ 1
  occ-a = omega (arith, in_occ a Y a_in, occ-once 0 a Y (rising Y legal.ordered))

  occ-b : occ b Y ≡ 0
  occ-b = occ-out b Y b_out

  marked_a : weight marks a ≡ 1
  marked_a = a_member size n most room marks sound z Y legal

  -- the pair that Y takes apart is kept
  pub record KeptPair : Type 0 where
    pub p : ℕ
    pub member_p : Member marks p
    pub partner_p : Member marks (bit_xor p z)
    pub chosen : l p ≡ 1
    pub on_p : r p ≡ 1

  pub kept_pair : KeptPair
  unfolding kept
  kept_pair = go (ℕ_discrete (l a) 1)
    where
      go : Dec (l a ≡ 1) → KeptPair
      go (yes h) =
          record {
            p = a;
            member_p = marked_a;
            partner_p = rw a_to_b b_member;
            chosen = h;
            on_p = rw (a_to_b, occ-a, occ-b, marked_a, b_member, h);
          }
      go (no h) =
          let g : l b ≡ 1 = omega (arith, one a, ap l a_to_b) in
          record {
            p = b;
            member_p = b_member;
            partner_p = rw b_to_a marked_a;
            chosen = g;
            on_p = rw (b_to_a, occ-a, occ-b, marked_a, b_member, g);
          }

-- ---- of a pair, the member without wire t

module _ (size n most : ℕ) (room : 2 ^ n ≤ size) (marks : List ℕ) (sound : SoundMarks size n marks) (z t : ℕ)
    (t_lt : t < n) (z_t : bit z t ≡ 1) (Y : List ℕ) (legal : Legal most n marks z Y) where
  abbrev l : ℕ → ℕ
  l p = 1 - bit p t

  one : (p : ℕ) → l p + l (bit_xor p z) ≡ 1
  one p = go (bit-values (bit p t) (bit-lt p t))
    where
      turned : bit (bit_xor p z) t ≡ (bit p t + 1) % 2
      turned = bit-xor p z t ∙ ap (λ (x : ℕ). (bit p t + x) % 2) z_t

      go : (bit p t ≡ 0) ⊎ (bit p t ≡ 1) → 1 - bit p t + (1 - bit (bit_xor p z) t) ≡ 1
      go (inl e) = rw (turned, e)
      go (inr e) = rw (turned, e)

  abbrev half : ℕ → ℕ
  half p = kept (occ p Y) (occ (bit_xor p z) Y) (weight marks p) (weight marks (bit_xor p z)) (1 - bit p t)

  stands : (p : ℕ) → half p ≡ 1 → Stands marks z t p
  stands p e = go (r_which size n most room marks sound z t t_lt z_t Y legal l one p e)
    where
      go : (Member marks p × (Member marks (bit_xor p z) → ⊥)) ⊎ (Member marks p × Member marks (bit_xor p z) × (1 - bit p t ≡ 1))
          → Stands marks z t p
      go (inl h) = record { member = h.0; alone = λ w. h.1 }
      go (inr h) = record { member = h.0; alone = λ w q. omega (arith, h.2) }

  half_two : (p : ℕ) → half p < 2
  half_two = r_two size n most room marks sound z t t_lt z_t Y legal l one

  -- the tag of p has the bit of p alone, and has it where the partner of p is a member
  tag_bit : (q p : ℕ) → bit (pair_tag marks z q) p ≡ weight marks (bit_xor q z) * bit (2 ^ q) p
  unfolding pair_tag
  tag_bit q p = bit-scale (weight marks (bit_xor q z)) (2 ^ q) p (sound.bits (bit_xor q z))

  -- what is kept has the tag of the pair that Y takes apart
  pub kept_tag : xor_all (map (pair_tag marks z) (listed (2 ^ n) half)) ≢ 0
  kept_tag e =
      let s = kept_pair size n most room marks sound z t t_lt z_t Y legal l one in
      let p : ℕ = s.p in
      let own : half p * bit (pair_tag marks z p) p ≡ 1 =
      rw (tag_bit p p, s.on_p, s.partner_p, bit-pow_same p) in
      let zero : bit (xor_all (map (pair_tag marks z) (listed (2 ^ n) half))) p ≡ 0 = ap (λ (x : ℕ). bit x p) e ∙ bit-of_zero p in
      omega (
        arith,
        sym (xor_all-map_bit (pair_tag marks z) p (listed (2 ^ n) half)) ∙ zero,
        listed_sum half half_two (2 ^ n) (λ q. bit (pair_tag marks z q) p),
        sum-single (2 ^ n) p (λ q. half q * bit (pair_tag marks z q) p) (member_lt size n marks sound p s.member_p)
            (λ q h ne. other q p ne),
      )
    where
      other : (q p : ℕ) → q ≢ p → half q * bit (pair_tag marks z q) p ≡ 0
      other q p ne =
          rw (tag_bit q p, bit-pow_other q p ne, mul-zero (weight marks (bit_xor q z))) (mul-zero (half q))

  -- so where columns that xor to 0 have tags that do, no move with this z is legal
  pub none_tagged : ((W : List ℕ) → ((i : ℕ) → i < length W → Stands marks z t (get_or W i 0)) → xor_all (map (column n z t) W) ≡ 0
      → xor_all (map (pair_tag marks z) W) ≡ 0) → ⊥
  none_tagged closed =
      kept_tag
      (closed (listed (2 ^ n) half)
      (λ i h. stands (get_or (listed (2 ^ n) half) i 0) (listed_in half half_two (2 ^ n) (get_or (listed (2 ^ n) half) i 0) (i, h, refl)))
      (columns_zero size n most room marks sound z t t_lt z_t Y legal l one))
