-- The echelon of the columns κ y, with a tag τ y for each: one column more; where columns xor to 0, so do their tags; and from a mask of
-- slots to one of members.
use mathlib.Core.List.{List, map}
use mathlib.Core.Logic.{◌≢◌, ◌⊎◌, inl, inr}
use mathlib.Core.Path.{◌∙◌, ◌≡◌, ap, ap₂, refl, sym}
use Prim.Native.Nat.{◌%◌, ◌*◌, ◌+◌, ◌<◌, ◌^◌, ◌≤◌, suc, zero, ℕ}
use native.Mathlib.Decide.{ℕ_discrete}
use native.Mathlib.Nat.{le_refl, one-mul, zero-mul}
use native.Mathlib.Numerals.{add-one}
use native.Mathlib.Omega.{arith}
use lib.Bits.{bit_xor, xor_self, xor_zero_l, xor_zero_r}
use lib.ListN.{get_or, length, length-map, length-replicate, length-set, replicate, set}
use lib.Pow.{pow_pos}
use lib.Seq.{get_or-set_other, get_or-set_same}
use Rattle.gf2.proofs.Bit.{bit-eq, bit-lt, bit-values, bit-xor}
use Rattle.gf2.proofs.Brute.{brute6}
use Rattle.gf2.proofs.Combination.{combine-fresh, combine-unseen, combine-whole, combine-with, get_d_map, span_all}
use Rattle.gf2.proofs.Echelon.{filled_new, filled_old, filled_shape, tags_vanish}
use Rattle.gf2.proofs.Selection.{combine-first, combine-next, combine-xor}
use Rattle.gf2.proofs.Table.{get_or-zeros}
use Rattle.gf2.proofs.Xor.{xor_assoc, xor_cancel}
use Rattle.gf2.specs.Bit.{bit}
use Rattle.gf2.specs.Echelon.{AllHold, Basis, Covers, Opened, Reached, SpanBoth, Stopped, by_members}
use Rattle.gf2.specs.Over.{xor_all}
use Rattle.gf2.specs.Selection.{combine}

-- ---- columns that are covered

module _ (N : ℕ) (κ τ : ℕ → ℕ) where
  -- all slots empty
  pub covers_none : (P : ℕ → Type 0) → ((y : ℕ) → P y → ⊥) → Covers N P κ τ (replicate N 0)
  covers_none P none =
      record {
        shape =
            record {
              long = length-replicate N 0;
              lead = λ s l. rw (get_or-zeros N s) (record { fits = pow_pos (suc s); leads = λ n. absurd (n refl) });
            };
        tag = replicate N 0;
        tag_long = length-replicate N 0;
        untagged = λ s e. get_or-zeros N s;
        spans = λ y p. absurd (none y p);
      }

  -- some of them
  pub covers_some : (P Q : ℕ → Type 0) (vec : List ℕ) → ((y : ℕ) → Q y → P y) → Covers N P κ τ vec → Covers N Q κ τ vec
  covers_some P Q vec back h =
      record {
        shape = h.shape;
        tag = h.tag;
        tag_long = h.tag_long;
        untagged = h.untagged;
        spans = λ y q. h.spans y (back y q);
      }

  -- one column more
  module _ (P Q : ℕ → Type 0) (vec : List ℕ) (y : ℕ) (back : (x : ℕ) → Q x → P x ⊎ (x ≡ y)) (h : Covers N P κ τ vec) where
    -- it is a combination already, and so is its tag
    pub covers_had : SpanBoth vec h.tag (κ y) (τ y) → Covers N Q κ τ vec
    covers_had had =
        record {
          shape = h.shape;
          tag = h.tag;
          tag_long = h.tag_long;
          untagged = h.untagged;
          spans = λ x q. spans' x (back x q);
        }
      where
        spans' : (x : ℕ) → P x ⊎ (x ≡ y) → SpanBoth vec h.tag (κ x) (τ x)
        spans' x (inl p) = h.spans x p
        spans' x (inr e) = rw e had

    -- it opens slot s, whose tag makes up for those of the slots taken off it
    module _ (s left used : ℕ) (t : Stopped N vec (κ y) s left used) where
      in_vec : s < length vec
      in_vec = rw h.shape.long t.slot

      in_tag : s < length h.tag
      in_tag = rw h.tag_long t.slot

      -- the slots taken off were filled
      pub unnamed : (mask : ℕ) → AllHold vec mask → bit mask s ≡ 0
      unnamed mask f = go (bit-values (bit mask s) (bit-lt mask s))
        where
          go : (bit mask s ≡ 0) ⊎ (bit mask s ≡ 1) → bit mask s ≡ 0
          go (inl e) = e
          go (inr e) = absurd (f s e t.empty)

      pub covers_more : Covers N Q κ τ (set vec s left)
      covers_more =
          record {
            shape = filled_shape N vec (κ y) s left used h.shape t;
            tag = set h.tag s (bit_xor (combine used h.tag) (τ y));
            tag_long = length-set h.tag s (bit_xor (combine used h.tag) (τ y)) ∙ h.tag_long;
            untagged = λ j e. untagged' j e (ℕ_discrete j s);
            spans = λ x q. spans' x (back x q);
          }
        where
          untagged' : (j : ℕ) → get_or (set vec s left) j 0 ≡ 0 → Dec (j ≡ s)
              → get_or (set h.tag s (bit_xor (combine used h.tag) (τ y))) j 0 ≡ 0
          untagged' j e (yes q) =
              let z : left ≡ 0 = sym (get_or-set_same vec s left 0 in_vec) ∙ ap (λ (i : ℕ). get_or (set vec s left) i 0) (sym q) ∙ e in
              absurd (omega (arith, t.lo, pow_pos s))
          untagged' j e (no n) =
              get_or-set_other h.tag s j (bit_xor (combine used h.tag) (τ y)) 0 n
              ∙ h.untagged j (sym (get_or-set_other vec s j left 0 n) ∙ e)

          twice : (a b : ℕ) → bit_xor a (bit_xor a b) ≡ b
          twice a b = sym (xor_assoc a a b) ∙ rw (xor_self a) (xor_zero_l b)

          spans' : (x : ℕ) → P x ⊎ (x ≡ y)
              → SpanBoth (set vec s left) (set h.tag s (bit_xor (combine used h.tag) (τ y))) (κ x) (τ x)
          spans' x (inl p) =
              let b = h.spans x p in (
                bit_xor b.0 (bit b.0 s * 2 ^ s),
                combine-fresh b.0 s left vec in_vec t.empty ∙ b.1,
                combine-fresh b.0 s (bit_xor (combine used h.tag) (τ y)) h.tag in_tag (h.untagged s t.empty) ∙ b.2,
              )
          spans' x (inr e) =
              rw e (
                bit_xor used (2 ^ s),
                combine-with used s left vec in_vec (unnamed used t.reached.filled) ∙ t.reached.taken,
                combine-with used s (bit_xor (combine used h.tag) (τ y)) h.tag in_tag (unnamed used t.reached.filled)
                    ∙ twice (combine used h.tag) (τ y),
              )

  -- where columns that are covered xor to 0, so do their tags
  pub covers_tags : (P : ℕ → Type 0) (vec : List ℕ) → Covers N P κ τ vec → (W : List ℕ)
      → ((i : ℕ) → i < length W → P (get_or W i 0)) → xor_all (map κ W) ≡ 0 → xor_all (map τ W) ≡ 0
  covers_tags P vec h W only e =
      let s = span_all vec h.tag κ τ W (λ i l. h.spans (get_or W i 0) (only i l)) in
      sym s.2 ∙ tags_vanish N vec h.shape h.tag h.untagged s.0 h.tag_long (s.1 ∙ e)

-- ---- and that opened the slots

module _ (N : ℕ) (κ τ : ℕ → ℕ) where
  -- all slots empty, whatever stands beside them
  pub basis_none : (P : ℕ → Type 0) (by member : List ℕ) → ((y : ℕ) → P y → ⊥) → Basis N P κ τ (replicate N 0) by member
  basis_none P by member none =
      record {
        covers = covers_none N κ τ P none;
        opened = λ s n. absurd (n (get_or-zeros N s));
        tagged = λ s n. absurd (n (get_or-zeros N s));
        from = λ s n. absurd (n (get_or-zeros N s));
      }

  -- one column more
  module _ (P Q : ℕ → Type 0) (vec by member : List ℕ) (to : (x : ℕ) → P x → Q x) (h : Basis N P κ τ vec by member) where
    -- none more: the same columns
    pub basis_same : ((y : ℕ) → Q y → P y) → Basis N Q κ τ vec by member
    unfolding covers_some
    basis_same back =
        record {
          covers = covers_some N κ τ P Q vec back h.covers;
          opened = h.opened;
          tagged = h.tagged;
          from = λ s n. to (get_or member s 0) (h.from s n);
        }

    module _ (y : ℕ) (back : (x : ℕ) → Q x → P x ⊎ (x ≡ y)) where
      -- it is a combination already, and so is its tag: nothing changes
      pub basis_had : SpanBoth vec h.covers.tag (κ y) (τ y) → Basis N Q κ τ vec by member
      unfolding covers_had
      basis_had had =
          record {
            covers = covers_had N κ τ P Q vec y back h.covers had;
            opened = h.opened;
            tagged = h.tagged;
            from = λ s n. to (get_or member s 0) (h.from s n);
          }

      -- it opens slot s
      pub basis_more : Q y → (s left used : ℕ) → length by ≡ N → length member ≡ N → Stopped N vec (κ y) s left used
          → Basis N Q κ τ (set vec s left) (set by s used) (set member s y)
      unfolding covers_more
      basis_more new s left used by_long member_long t =
          record {
            covers = covers_more N κ τ P Q vec y back h.covers s left used t;
            opened = λ j n. opened' j n (ℕ_discrete j s);
            tagged = λ j n. tagged' j n (ℕ_discrete j s);
            from = λ j n. from' j n (ℕ_discrete j s);
          }
        where
          by_now : get_or (set by s used) s 0 ≡ used
          by_now = get_or-set_same by s used 0 (rw by_long t.slot)

          member_now : get_or (set member s y) s 0 ≡ y
          member_now = get_or-set_same member s y 0 (rw member_long t.slot)

          in_tag : s < length h.covers.tag
          in_tag = rw h.covers.tag_long t.slot

          before : (j : ℕ) → j ≢ s → get_or (set vec s left) j 0 ≢ 0 → get_or vec j 0 ≢ 0
          before j d n z = n (get_or-set_other vec s j left 0 d ∙ z)

          opened' : (j : ℕ) → get_or (set vec s left) j 0 ≢ 0 → Dec (j ≡ s)
              → Opened (set vec s left) j (κ (get_or (set member s y) j 0)) (get_or (set by s used) j 0)
          opened' j n (yes e) = rw (e, member_now, by_now) (filled_new N vec (κ y) s left used h.covers.shape t)
          opened' j n (no d) =
              rw (get_or-set_other member s j y 0 d, get_or-set_other by s j used 0 d)
              (filled_old N vec (κ y) s left used h.covers.shape t j (κ (get_or member j 0)) (get_or by j 0) (before j d n)
              (h.opened j (before j d n)))

          unseen : (mask : ℕ) → AllHold vec mask
              → combine mask (set h.covers.tag s (bit_xor (combine used h.covers.tag) (τ y))) ≡ combine mask h.covers.tag
          unseen mask f =
              combine-unseen mask s (bit_xor (combine used h.covers.tag) (τ y)) h.covers.tag in_tag
              (unnamed N κ τ P Q vec y back h.covers s left used t mask f)

          twice : (a b : ℕ) → bit_xor a (bit_xor a b) ≡ b
          twice a b = sym (xor_assoc a a b) ∙ rw (xor_self a) (xor_zero_l b)

          tagged' : (j : ℕ) → get_or (set vec s left) j 0 ≢ 0 → Dec (j ≡ s)
              → bit_xor (combine (get_or (set by s used) j 0) (set h.covers.tag s (bit_xor (combine used h.covers.tag) (τ y))))
              (get_or (set h.covers.tag s (bit_xor (combine used h.covers.tag) (τ y))) j 0) ≡ τ (get_or (set member s y) j 0)
          tagged' j n (yes e) =
              rw (
                e,
                by_now,
                member_now,
                unseen used t.reached.filled,
                get_or-set_same h.covers.tag s (bit_xor (combine used h.covers.tag) (τ y)) 0 in_tag,
              )
              (twice (combine used h.covers.tag) (τ y))
          tagged' j n (no d) =
              rw (
                get_or-set_other by s j used 0 d,
                get_or-set_other member s j y 0 d,
                unseen (get_or by j 0) (h.opened j (before j d n)).filled,
                get_or-set_other h.covers.tag s j (bit_xor (combine used h.covers.tag) (τ y)) 0 d,
              )
              (h.tagged j (before j d n))

          from' : (j : ℕ) → get_or (set vec s left) j 0 ≢ 0 → Dec (j ≡ s) → Q (get_or (set member s y) j 0)
          from' j n (yes e) = rw (e, member_now) new
          from' j n (no d) = rw (get_or-set_other member s j y 0 d) (to (get_or member j 0) (h.from j (before j d n)))

-- ---- v come down to 0: by slots, and so by members

-- for a loop over the slots: one that the mask names, and one that it does not
module _ (by : List ℕ) (m k : ℕ) where
  pub by_on : bit (by_members by m k) k ≡ 1 → by_members by m (k + 1) ≡ bit_xor (by_members by m k) (get_or by k 0)
  unfolding by_members
  by_on e = rw (add-one k, e) (ap (bit_xor (by_members by m k)) (one-mul (get_or by k 0)))

  pub by_off : bit (by_members by m k) k ≡ 0 → by_members by m (k + 1) ≡ by_members by m k
  unfolding by_members
  by_off e = rw (add-one k, e, zero-mul (get_or by k 0)) (xor_zero_r (by_members by m k))

-- masks with the same bits below k combine the same of the first k numbers
low_same : (k x y : ℕ) (ys : List ℕ) → ((i : ℕ) → i < k → bit x i ≡ bit y i) → combine (x % 2 ^ k) ys ≡ combine (y % 2 ^ k) ys
low_same zero x y ys h = combine-first x ys ∙ sym (combine-first y ys)
low_same (suc k) x y ys h =
    combine-next x k ys
    ∙ ap₂ (λ (a b : ℕ). bit_xor a (b * get_or ys k 0)) (low_same k x y ys (λ i l. h i (omega arith))) (h k (le_refl _))
    ∙ sym (combine-next y k ys)

-- a slot w gives place to its column, q xor w, and q goes to the slots
turn : (a b w x q : ℕ) → bit_xor (bit_xor (bit_xor a (bit_xor q w)) (bit_xor b w)) (bit_xor x q) ≡ bit_xor (bit_xor a b) x
turn a b w x q = bit-eq _ _ (λ i. simp bit-xor (at (bit a i) (bit b i) (bit w i) (bit x i) (bit q i)
    (bit-lt a i) (bit-lt b i) (bit-lt w i) (bit-lt x i) (bit-lt q i)))
  where
    at : (a b w x q : ℕ) → a < 2 → b < 2 → w < 2 → x < 2 → q < 2
        → (((a + (q + w) % 2) % 2 + (b + w) % 2) % 2 + (x + q) % 2) % 2 ≡ ((a + b) % 2 + x) % 2
    at a b w x q ha hb hw hx hq =
        brute6 (λ a b w x q u. (((a + (q + w) % 2) % 2 + (b + w) % 2) % 2 + (x + q) % 2) % 2) (λ a b w x q u. ((a + b) % 2 + x) % 2) tt
        a b w x q 0 ha hb hw hx hq (omega arith)

-- numbers that stand beside the slots, as the columns in them or their tags do: each makes up, with those of the slots taken off, for f of
-- the member
module _ (N : ℕ) (vec by member val : List ℕ) (f : ℕ → ℕ) (long : length member ≡ N) (val_long : length val ≡ N)
    (filled : (s : ℕ) → get_or vec s 0 ≢ 0 → AllHold vec (get_or by s 0))
    (above : (s : ℕ) → get_or vec s 0 ≢ 0 → (j : ℕ) → bit (get_or by s 0) j ≡ 1 → s < j)
    (made : (s : ℕ) → get_or vec s 0 ≢ 0 → bit_xor (combine (get_or by s 0) val) (get_or val s 0) ≡ f (get_or member s 0)) where
  -- v, with what stands for the members of the slots below k that x names, and what stands beside the slots from k on
  abbrev Mixed : ℕ → ℕ → ℕ → Type 0
  Mixed v k x = bit_xor (bit_xor (combine (x % 2 ^ k) (map f member)) (combine (x % 2 ^ k) val)) (combine x val) ≡ v

  mixed_off : (v x k : ℕ) → bit x k ≡ 0 → Mixed v k x → Mixed v (suc k) x
  mixed_off v x k e m =
      rw (
        combine-next x k (map f member),
        combine-next x k val,
        e,
        zero-mul (get_or (map f member) k 0),
        zero-mul (get_or val k 0),
        xor_zero_r (combine (x % 2 ^ k) (map f member)),
        xor_zero_r (combine (x % 2 ^ k) val),
      ) m

  mixed_on : (v x k : ℕ) → k < N → bit x k ≡ 1 → get_or vec k 0 ≢ 0 → Mixed v k x → Mixed v (suc k) (bit_xor x (get_or by k 0))
  mixed_on v x k l e n m =
      rw (
        low_same (suc k) (bit_xor x q) x (map f member) low,
        low_same (suc k) (bit_xor x q) x val low,
        combine-next x k (map f member),
        combine-next x k val,
        e,
        one-mul (get_or (map f member) k 0),
        one-mul (get_or val k 0),
        combine-xor x q val,
        get_d_map f member k (rw long l),
        ← (made k n),
      ) (turn (combine (x % 2 ^ k) (map f member)) (combine (x % 2 ^ k) val) (get_or val k 0) (combine x val) (combine q val) ∙ m)
    where
      q : ℕ
      q = get_or by k 0

      low : (i : ℕ) → i < suc k → bit (bit_xor x q) i ≡ bit x i
      low i g = go (bit-values (bit q i) (bit-lt q i))
        where
          go : (bit q i ≡ 0) ⊎ (bit q i ≡ 1) → bit (bit_xor x q) i ≡ bit x i
          go (inl z) = omega (arith, bit-xor x q i, bit-lt x i)
          go (inr z) = absurd (omega (arith, above k n i z))

  filled_on : (x k : ℕ) → get_or vec k 0 ≢ 0 → AllHold vec x → AllHold vec (bit_xor x (get_or by k 0))
  filled_on x k n g s e = go (bit-values (bit x s) (bit-lt x s))
    where
      go : (bit x s ≡ 0) ⊎ (bit x s ≡ 1) → get_or vec s 0 ≢ 0
      go (inl z) = filled k n s (omega (arith, bit-xor x (get_or by k 0) s, bit-lt (get_or by k 0) s))
      go (inr z) = g s z

  module _ (used : ℕ) (named : AllHold vec used) where
    mixed : (k : ℕ) → k ≤ N → Mixed (combine used val) k (by_members by used k) × AllHold vec (by_members by used k)
    unfolding by_members
    mixed zero l = (
      rw (combine-first used (map f member), combine-first used val) (xor_zero_l (combine used val)),
      named,
    )
    mixed (suc k) l = go (bit-values (bit (by_members by used k) k) (bit-lt (by_members by used k) k)) (mixed k (omega arith))
      where
        v : ℕ
        v = combine used val

        go : (bit (by_members by used k) k ≡ 0) ⊎ (bit (by_members by used k) k ≡ 1)
            → Mixed (combine used val) k (by_members by used k) × AllHold vec (by_members by used k)
            → Mixed (combine used val) (suc k) (bit_xor (by_members by used k) (bit (by_members by used k) k * get_or by k 0))
            × AllHold vec (bit_xor (by_members by used k) (bit (by_members by used k) k * get_or by k 0))
        go (inl e) p =
            rw (e, zero-mul (get_or by k 0), xor_zero_r (by_members by used k)) (mixed_off v (by_members by used k) k e p.0, p.1)
        go (inr e) p =
            let n = p.1 k e in
            rw (e, one-mul (get_or by k 0))
            (mixed_on v (by_members by used k) k l e n p.0, filled_on (by_members by used k) k n p.1)

    -- what the mask combines beside the slots, that of members combines of f
    pub by_slots : combine (by_members by used N) (map f member) ≡ combine used val
    by_slots =
        let x : ℕ = by_members by used N in
        let of_f : combine (x % 2 ^ N) (map f member) ≡ combine x (map f member) =
        ap (λ (k : ℕ). combine (x % 2 ^ k) (map f member)) (sym (length-map member f ∙ long)) ∙ combine-whole x (map f member) in
        let of_val : combine (x % 2 ^ N) val ≡ combine x val =
        ap (λ (k : ℕ). combine (x % 2 ^ k) val) (sym val_long) ∙ combine-whole x val in
        sym (xor_cancel (combine x (map f member)) (combine x val)) ∙ rw (of_f, of_val) at (mixed N (le_refl _)).0

    -- and it names filled slots
    pub by_filled : AllHold vec (by_members by used N)
    by_filled = (mixed N (le_refl _)).1

module _ (N : ℕ) (κ τ : ℕ → ℕ) (P : ℕ → Type 0) (vec by member : List ℕ) (h : Basis N P κ τ vec by member) (long : length member ≡ N)
    (v used : ℕ) (r : Reached vec v 0 used) where
  -- v is the xor of the columns of the members that the mask names
  pub members_combine : combine (by_members by used N) (map κ member) ≡ v
  members_combine =
      by_slots N vec by member vec κ long h.covers.shape.long (λ s n. (h.opened s n).filled) (λ s n. (h.opened s n).above)
      (λ s n. (h.opened s n).taken) used r.filled
      ∙ sym (xor_zero_r (combine used vec)) ∙ r.taken

  -- and their tags are combined as the slots are
  pub members_tags : combine (by_members by used N) (map τ member) ≡ combine used h.covers.tag
  members_tags =
      by_slots N vec by member h.covers.tag τ long h.covers.tag_long (λ s n. (h.opened s n).filled) (λ s n. (h.opened s n).above)
      h.tagged used r.filled

  -- which are allowed
  pub members_allowed : (s : ℕ) → bit (by_members by used N) s ≡ 1 → P (get_or member s 0)
  members_allowed s e =
      h.from s
      (by_filled N vec by member vec κ long h.covers.shape.long (λ s n. (h.opened s n).filled) (λ s n. (h.opened s n).above)
      (λ s n. (h.opened s n).taken) used r.filled s e)

  -- the tags of the members named xor to that of y, whose column v is: then it is a combination with its tag
  pub members_had : (w : ℕ) → combine (by_members by used N) (map τ member) ≡ w → SpanBoth vec h.covers.tag v w
  members_had w e = (used, sym (xor_zero_r (combine used vec)) ∙ r.taken, sym members_tags ∙ e)
