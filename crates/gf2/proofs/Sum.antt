-- Sums over the numbers below k: termwise laws, exchange, one term changed, and re-indexing by xor.
use mathlib.Core.Logic.{◌≢◌}
use mathlib.Core.Path.{ap, refl, sym, ◌∙◌, ◌≡◌}
use Prim.Native.Nat.{◌%◌, ◌*◌, ◌+◌, ◌-◌, ◌<◌, ◌^◌, suc, zero, ℕ, ◌≤◌}
use native.Mathlib.Decide.{dec_lt, ℕ_discrete}
use native.Mathlib.Nat.{add-mod, add-suc, add-zero, le_refl, two-pow-succ}
use native.Mathlib.Omega.{arith}
use lib.Bits.{bit_xor, xor_block}
use Rattle.gf2.specs.Sum.{delta, sum}

pub sum-suc : (k : ℕ) (f : ℕ → ℕ) → sum (suc k) f ≡ sum k f + f k
unfolding sum
sum-suc k f = refl

pub sum-ext : (k : ℕ) (f g : ℕ → ℕ) → ((i : ℕ) → i < k → f i ≡ g i) → sum k f ≡ sum k g
unfolding sum
sum-ext zero f g h = refl
sum-ext (suc k) f g h = omega (arith, sum-ext k f g (λ i l. h i (omega arith)), h k (le_refl _))

pub sum-le : (k : ℕ) (f g : ℕ → ℕ) → ((i : ℕ) → i < k → f i ≤ g i) → sum k f ≤ sum k g
unfolding sum
sum-le zero f g h = omega arith
sum-le (suc k) f g h = omega (arith, sum-le k f g (λ i l. h i (omega arith)), h k (le_refl _))

-- one term is at most the sum
pub sum-term : (m q : ℕ) (f : ℕ → ℕ) → q < m → f q ≤ sum m f
unfolding sum
sum-term zero q f l = absurd (omega arith)
sum-term (suc m) q f l = go (ℕ_discrete m q) (λ l'. sum-term m q f l')
  where
    go : Dec (m ≡ q) → (q < m → f q ≤ sum m f) → f q ≤ sum m f + f m
    go (yes e) r = rw (← e) (omega arith)
    go (no n) r = omega (arith, r (omega arith))

pub sum-add : (k : ℕ) (f g : ℕ → ℕ) → sum k (λ i. f i + g i) ≡ sum k f + sum k g
unfolding sum
sum-add zero f g = refl
sum-add (suc k) f g = omega (arith, sum-add k f g)

pub sum-scale : (k c : ℕ) (f : ℕ → ℕ) → sum k (λ i. c * f i) ≡ c * sum k f
unfolding sum
sum-scale zero c f = omega arith
sum-scale (suc k) c f = omega (arith, sum-scale k c f)

pub sum-zero : (k : ℕ) → sum k (λ i. 0) ≡ 0
unfolding sum
sum-zero zero = refl
sum-zero (suc k) = omega (arith, sum-zero k)

-- Fubini
pub sum-swap : (a b : ℕ) (f : ℕ → ℕ → ℕ) → sum a (λ i. sum b (λ j. f i j)) ≡ sum b (λ j. sum a (λ i. f i j))
unfolding sum
sum-swap zero b f = sym (sum-zero b)
sum-swap (suc a) b f = omega (arith, sum-swap a b f, sum-add b (λ j. sum a (λ i. f i j)) (f a))

pub sum-append : (a b : ℕ) (f : ℕ → ℕ) → sum (a + b) f ≡ sum a f + sum b (λ i. f (a + i))
unfolding sum
sum-append a zero f = rw (add-zero a) (omega arith)
sum-append a (suc b) f = rw (add-suc a b) (omega (arith, sum-append a b f))

-- congruent termwise, congruent
pub sum-mod : (m k : ℕ) (f g : ℕ → ℕ) → ((i : ℕ) → i < k → f i % m ≡ g i % m) → sum k f % m ≡ sum k g % m
unfolding sum
sum-mod m zero f g h = refl
sum-mod m (suc k) f g h =
    rw (add-mod (sum k f) (f k) m, add-mod (sum k g) (g k) m, sum-mod m k f g (λ i l. h i (omega arith)), h k (le_refl _))

-- two functions that differ at q only
pub sum-update : (m q : ℕ) (f g : ℕ → ℕ) → q < m → ((p : ℕ) → p < m → p ≢ q → f p ≡ g p) → sum m g + f q ≡ sum m f + g q
unfolding sum
sum-update zero q f g l h = absurd (omega arith)
sum-update (suc m) q f g l h = go (ℕ_discrete m q) (λ l'. sum-update m q f g l' (λ p k. h p (omega arith)))
  where
    go : Dec (m ≡ q) → (q < m → sum m g + f q ≡ sum m f + g q) → sum m g + g m + f q ≡ sum m f + f m + g q
    go (yes e) r = rw (← e) (omega (arith, sum-ext m f g (λ i k. h i (omega arith) (omega arith))))
    go (no n) r = omega (arith, r (omega arith), h m (omega arith) n)

-- a function that is 0 but at q
pub sum-single : (m q : ℕ) (f : ℕ → ℕ) → q < m → ((p : ℕ) → p < m → p ≢ q → f p ≡ 0) → sum m f ≡ f q
sum-single m q f l h = omega (arith, sum-update m q f (λ p. 0) l h, sum-zero m)

-- the lower and the upper half
pub sum-double : (k : ℕ) (f : ℕ → ℕ) → sum (2 ^ suc k) f ≡ sum (2 ^ k) f + sum (2 ^ k) (λ i. f (2 ^ k + i))
sum-double k f = ap (λ (n : ℕ). sum n f) (two-pow-succ k) ∙ sum-append (2 ^ k) (2 ^ k) f

-- x and y by their top bits a and b and the k low digits
xor_at : (k x y a b p z : ℕ) → x ≡ a * 2 ^ k + p → y ≡ b * 2 ^ k + z → p < 2 ^ k → z < 2 ^ k
    → bit_xor x y ≡ bit_xor a b * 2 ^ k + bit_xor p z
xor_at k x y a b p z ex ey hp hz = rw (ex, ey) (xor_block k a b p z hp hz)

pub sum-xor : (k z : ℕ) (f : ℕ → ℕ) → z < 2 ^ k → sum (2 ^ k) (λ p. f (bit_xor p z)) ≡ sum (2 ^ k) f
unfolding sum
sum-xor zero z f h = let e : z ≡ 0 = omega arith in rw e
sum-xor (suc k) z f h = go (dec_lt z (2 ^ k)) (λ w l g. sum-xor k w g l)
  where
    P : ℕ
    P = 2 ^ k

    go : Dec (z < P) → ((w : ℕ) → w < P → (g : ℕ → ℕ) → sum P (λ p. g (bit_xor p w)) ≡ sum P g)
        → sum (2 ^ suc k) (λ p. f (bit_xor p z)) ≡ sum (2 ^ suc k) f
    go (yes l) ih =
        omega (
          arith,
          sum-double k (λ p. f (bit_xor p z)),
          sum-double k f,
          ih z l f,
          ih z l (λ q. f (P + q)),
          sum-ext P (λ p. f (bit_xor (P + p) z)) (λ p. f (P + bit_xor p z))
              (λ p hp. ap f (xor_at k (P + p) z 1 0 p z (omega arith) (omega arith) hp l ∙ omega arith)),
        )
    go (no n) ih =
        let w : ℕ = z - P in
        let l : w < P = omega arith in
        omega (
          arith,
          sum-double k (λ p. f (bit_xor p z)),
          sum-double k f,
          ih w l f,
          ih w l (λ q. f (P + q)),
          sum-ext P (λ p. f (bit_xor (P + p) z)) (λ p. f (bit_xor p w))
              (λ p hp. ap f (xor_at k (P + p) z 1 1 p w (omega arith) (omega arith) hp l ∙ omega arith)),
          sum-ext P (λ p. f (bit_xor p z)) (λ p. f (P + bit_xor p w))
              (λ p hp. ap f (xor_at k p z 0 1 p w (omega arith) (omega arith) hp l ∙ omega arith)),
        )

pub delta-same : (a : ℕ) → delta a a ≡ 1
unfolding delta
delta-same zero = refl
delta-same (suc a) = delta-same a

pub delta-other : (a p : ℕ) → p ≢ a → delta a p ≡ 0
unfolding delta
delta-other zero zero h = absurd (h refl)
delta-other zero (suc p) h = refl
delta-other (suc a) zero h = refl
delta-other (suc a) (suc p) h = delta-other a p (λ e. h (ap suc e))

pub sum-const : (k c : ℕ) → sum k (λ i. c) ≡ k * c
unfolding sum
sum-const zero c = omega arith
sum-const (suc k) c = omega (arith, sum-const k c)

-- the first term apart
pub sum-front : (k : ℕ) (f : ℕ → ℕ) → sum (suc k) f ≡ f 0 + sum k (λ i. f (suc i))
unfolding sum
sum-front zero f = omega arith
sum-front (suc k) f = omega (arith, sum-front k f)
