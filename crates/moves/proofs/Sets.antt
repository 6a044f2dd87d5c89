-- Sets by counting: occ p Y is how often p stands in Y, so that membership, subset and "nothing twice" are numbers.
use mathlib.Core.List.{List, [], ◌++◌, ◌∷◌, append-nil}
use mathlib.Core.Path.{◌∙◌, ◌≡◌, ap, ap₂, refl, sym}
use Prim.Native.Nat.{◌*◌, ◌+◌, ◌-◌, ◌<◌, ◌≤◌, suc, suc-le-suc, zero, zero-le, ℕ}
use native.Mathlib.Decide.{dec_lt, ℕ_discrete}
use native.Mathlib.Nat.{le_refl, mul-one}
use native.Mathlib.Numerals.{add-one}
use native.Mathlib.Omega.{arith}
use lib.ListN.{get_or, length}
use Rattle.gf2.proofs.Over.{length-sum_over, sum_over-append, sum_over-cons, sum_over-nil}
use Rattle.gf2.proofs.Steady.{steady}
use Rattle.gf2.proofs.Sum.{delta-other, delta-same, sum-add, sum-append, sum-ext, sum-single, sum-suc, sum-zero}
use Rattle.gf2.specs.Over.{Below, sum_over}
use Rattle.gf2.specs.Sum.{delta, sum}
use Rattle.moves.specs.Sets.{Ascending, In, listed, only}

-- how often p stands in Y
abbrev pub occ : ℕ → List ℕ → ℕ
occ p Y = sum_over (delta p) Y

at_occ : (p : ℕ) (Y : List ℕ) (i : ℕ) → i < length Y → get_or Y i 0 ≡ p → 1 ≤ occ p Y
unfolding sum_over
at_occ p [] i l e = absurd (omega arith)
at_occ p (y ∷ Y) zero l e = rw e (omega (arith, delta-same p))
at_occ p (y ∷ Y) (suc i) l e = omega (arith, at_occ p Y i (omega arith) e)

pub in_occ : (p : ℕ) (Y : List ℕ) → In p Y → 1 ≤ occ p Y
in_occ p Y t = at_occ p Y t.0 t.1 t.2

pub occ-in : (p : ℕ) (Y : List ℕ) → 1 ≤ occ p Y → In p Y
unfolding sum_over
occ-in p [] h = absurd (omega arith)
occ-in p (y ∷ Y) h = go (ℕ_discrete y p) (λ k. occ-in p Y k)
  where
    go : Dec (y ≡ p) → (1 ≤ occ p Y → In p Y) → In p (y ∷ Y)
    go (yes e) r = (0, suc-le-suc zero-le, e)
    go (no n) r = let t = r (omega (arith, delta-other p y n)) in (suc t.0, suc-le-suc t.1, t.2)

pub occ-out : (p : ℕ) (Y : List ℕ) → (In p Y → ⊥) → occ p Y ≡ 0
occ-out p Y h = go (occ p Y) refl
  where
    go : (o : ℕ) → occ p Y ≡ o → o ≡ 0
    go zero e = refl
    go (suc o) e = absurd (h (occ-in p Y (omega arith)))

pub out_occ : (p : ℕ) (Y : List ℕ) → occ p Y ≡ 0 → In p Y → ⊥
out_occ p Y e t = omega (arith, in_occ p Y t)

-- ---- ascending, by recursion: all of Y from lo up

abbrev pub Rising : ℕ → List ℕ → Type 0
Rising lo [] = Unit {0}
Rising lo (y ∷ Y) = (lo ≤ y) × Rising (suc y) Y

rising_from : (lo : ℕ) (Y : List ℕ) → (0 < length Y → lo ≤ get_or Y 0 0) → Ascending Y → Rising lo Y
rising_from lo [] h a = tt
rising_from lo (y ∷ Y) h a = (h (suc-le-suc zero-le), rising_from (suc y) Y (λ l. a 0 (suc-le-suc l)) (λ i l. a (suc i) (suc-le-suc l)))

pub rising : (Y : List ℕ) → Ascending Y → Rising 0 Y
rising Y a = rising_from 0 Y (λ l. zero-le) a

pub ascending : (lo : ℕ) (Y : List ℕ) → Rising lo Y → Ascending Y
ascending lo [] r i l = absurd (omega arith)
ascending lo (y ∷ []) r i l = absurd (omega arith)
ascending lo (y ∷ y₂ ∷ Y) r zero l = r.1.0
ascending lo (y ∷ y₂ ∷ Y) r (suc i) l = ascending (suc y) (y₂ ∷ Y) r.1 i (omega arith)

pub rising_weaken : (lo hi : ℕ) (Y : List ℕ) → lo ≤ hi → Rising hi Y → Rising lo Y
rising_weaken lo hi [] h r = tt
rising_weaken lo hi (y ∷ Y) h r = (omega arith, r.1)

pub occ-below : (lo p : ℕ) (Y : List ℕ) → Rising lo Y → p < lo → occ p Y ≡ 0
unfolding sum_over
occ-below lo p [] r h = refl
occ-below lo p (y ∷ Y) r h = omega (arith, delta-other p y (omega arith), occ-below (suc y) p Y r.1 (omega arith))

-- nothing stands twice
pub occ-once : (lo p : ℕ) (Y : List ℕ) → Rising lo Y → occ p Y ≤ 1
unfolding sum_over
occ-once lo p [] r = omega arith
occ-once lo p (y ∷ Y) r = go (ℕ_discrete y p) (occ-once (suc y) p Y r.1)
  where
    go : Dec (y ≡ p) → occ p Y ≤ 1 → delta p y + occ p Y ≤ 1
    go (yes e) h = rw e (omega (arith, delta-same p, occ-below (suc y) p Y r.1 (omega arith)))
    go (no n) h = omega (arith, delta-other p y n)

-- a sum over Y, by the numbers below k
pub sum_over-occ : (k : ℕ) (c : ℕ → ℕ) (Y : List ℕ) → Below k Y → sum_over c Y ≡ sum k (λ p. occ p Y * c p)
sum_over-occ k c [] h =
    sum_over-nil c ∙ sym (sum-ext k (λ p. occ p [] * c p) (λ p. 0) (λ p l. rw (sum_over-nil (delta p)) (omega arith)) ∙ sum-zero k)
sum_over-occ k c (y ∷ Y) h =
    sum_over-cons c y Y
    ∙ omega (
      arith,
      sum_over-occ k c Y (λ i l. h (suc i) (suc-le-suc l)),
      sum-ext k (λ p. occ p (y ∷ Y) * c p) (λ p. delta p y * c p + occ p Y * c p) (λ p l. rw (sum_over-cons (delta p) y Y) (omega arith)),
      sum-add k (λ p. delta p y * c p) (λ p. occ p Y * c p),
      sum-single k y (λ p. delta p y * c p) (h 0 (suc-le-suc zero-le)) (λ p l ne. rw (delta-other p y (λ e. ne (sym e))) (omega arith)),
      one y,
    )
  where
    one : (q : ℕ) → delta q q * c q ≡ c q
    one q = rw (delta-same q) (omega arith)

-- ---- the numbers that a function marks, listed

-- all of Y from lo up and below hi
abbrev Within : ℕ → ℕ → List ℕ → Type 0
Within lo hi [] = lo ≤ hi
Within lo hi (y ∷ Y) = (lo ≤ y) × Within (suc y) hi Y

within_more : (lo hi : ℕ) (Y : List ℕ) (b : ℕ) → Within lo hi Y → Within lo (suc hi) (Y ++ only b hi)
unfolding only
within_more lo hi [] zero w = omega arith
within_more lo hi [] (suc b) w = (w, le_refl _)
within_more lo hi (y ∷ Y) b w = (w.0, within_more (suc y) hi Y b w.1)

within_rising : (lo hi : ℕ) (Y : List ℕ) → Within lo hi Y → Rising lo Y
within_rising lo hi [] w = tt
within_rising lo hi (y ∷ Y) w = (w.0, within_rising (suc y) hi Y w.1)

listed_within : (k : ℕ) (f : ℕ → ℕ) → Within 0 k (listed k f)
unfolding listed
listed_within zero f = zero-le
listed_within (suc k) f = within_more 0 k (listed k f) (f k) (listed_within k f)

pub listed_ascending : (k : ℕ) (f : ℕ → ℕ) → Ascending (listed k f)
listed_ascending k f = ascending 0 (listed k f) (within_rising 0 k (listed k f) (listed_within k f))

pub listed_rising : (k : ℕ) (f : ℕ → ℕ) → Rising 0 (listed k f)
listed_rising k f = within_rising 0 k (listed k f) (listed_within k f)

pub listed_ext : (k : ℕ) (f g : ℕ → ℕ) → ((p : ℕ) → p < k → f p ≡ g p) → listed k f ≡ listed k g
unfolding listed
listed_ext zero f g h = refl
listed_ext (suc k) f g h = ap₂ (λ (Y : List ℕ) (b : ℕ). Y ++ only b k) (listed_ext k f g (λ p l. h p (omega arith))) (h k (le_refl _))

-- for a loop that lists: a number that f marks, and one that it does not
pub listed_on : (k : ℕ) (f : ℕ → ℕ) → f k ≡ 1 → listed (k + 1) f ≡ listed k f ++ (k ∷ [])
unfolding listed only
listed_on k f e = rw (add-one k) (ap (λ (b : ℕ). listed k f ++ only b k) e)

pub listed_off : (k : ℕ) (f : ℕ → ℕ) → f k ≡ 0 → listed (k + 1) f ≡ listed k f
unfolding listed only
listed_off k f e = rw (add-one k) (ap (λ (b : ℕ). listed k f ++ only b k) e ∙ append-nil (listed k f))

-- f marks nothing from k on
pub listed_end : (k n : ℕ) (f : ℕ → ℕ) → k ≤ n → ((p : ℕ) → k ≤ p → f p ≡ 0) → listed n f ≡ listed k f
listed_end k n f l none = steady (λ (m : ℕ). listed m f) k n l (λ j g i e. listed_off j f (none j g) ∙ e)

pub listed_none : (k : ℕ) → listed k (λ p. 0) ≡ []
unfolding listed only
listed_none zero = refl
listed_none (suc k) = append-nil (listed k (λ p. 0)) ∙ listed_none k

module _ (f : ℕ → ℕ) (marks : (p : ℕ) → f p < 2) where
  only_sum : (c : ℕ → ℕ) (b k : ℕ) → b < 2 → sum_over c (only b k) ≡ b * c k
  unfolding only sum_over
  only_sum c zero k h = omega arith
  only_sum c (suc zero) k h = omega arith
  only_sum c (suc (suc b)) k h = absurd (omega arith)

  pub listed_sum : (k : ℕ) (c : ℕ → ℕ) → sum_over c (listed k f) ≡ sum k (λ p. f p * c p)
  unfolding listed sum
  listed_sum zero c = sum_over-nil c
  listed_sum (suc k) c = omega (arith, sum_over-append c (listed k f) (only (f k) k), listed_sum k c, only_sum c (f k) k (marks k))

  pub listed_length : (k : ℕ) → length (listed k f) ≡ sum k f
  listed_length k = length-sum_over (listed k f) ∙ listed_sum k (λ y. 1) ∙ sum-ext k (λ p. f p * 1) f (λ p l. mul-one (f p))

  -- there is room for a number that f marks
  pub listed_room : (k p : ℕ) → p < k → f p ≡ 1 → length (listed p f) < length (listed k f)
  listed_room k p l e =
      let d : ℕ = k - suc p in
      let q : k ≡ suc p + d = omega arith in
      rw (q, listed_length p, listed_length (suc p + d)) (omega (arith, sum-append (suc p) d f, sum-suc p f))

  -- p stands in it as often as f says
  pub listed_occ : (k p : ℕ) → p < k → occ p (listed k f) ≡ f p
  listed_occ k p l =
      listed_sum k (delta p) ∙ sum-single k p (λ q. f q * delta p q) l (λ q g ne. rw (delta-other p q ne) (omega arith))
      ∙ rw (delta-same p) (omega arith)

  -- and from k up not at all
  pub listed_beyond : (k p : ℕ) → k ≤ p → occ p (listed k f) ≡ 0
  listed_beyond k p h =
      listed_sum k (delta p) ∙ sum-ext k (λ q. f q * delta p q) (λ q. 0) (λ q l. rw (delta-other p q (omega arith)) (omega arith))
      ∙ sum-zero k

  pub listed_le : (k p : ℕ) → occ p (listed k f) ≤ f p
  listed_le k p = go (dec_lt p k)
    where
      go : Dec (p < k) → occ p (listed k f) ≤ f p
      go (yes l) = omega (arith, listed_occ k p l)
      go (no l) = omega (arith, listed_beyond k p (omega arith))

  pub listed_in : (k p : ℕ) → In p (listed k f) → f p ≡ 1
  listed_in k p t = omega (arith, in_occ p (listed k f) t, listed_le k p, marks p)

  pub in_listed : (k p : ℕ) → p < k → f p ≡ 1 → In p (listed k f)
  in_listed k p l e = occ-in p (listed k f) (omega (arith, listed_occ k p l))
