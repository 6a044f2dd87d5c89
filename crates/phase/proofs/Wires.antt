-- Parities of one wire, of two and of three: 2 ^ i, 2 ^ i + 2 ^ j and 2 ^ i + 2 ^ j + 2 ^ k.
-- How many wires they have, which is the lowest and the next, and their bits.
use mathlib.Core.Logic.{◌≢◌}
use mathlib.Core.Path.{ap, refl, sym, ◌∙◌, ◌≡◌}
use Prim.Native.Nat.{◌%◌, ◌+◌, ◌-◌, ◌/◌, ◌<◌, ◌^◌, suc, zero, ℕ}
use native.Mathlib.Decide.{dec_lt}
use native.Mathlib.Nat.{add_comm, add-zero, one-mul}
use native.Mathlib.Omega.{arith}
use lib.Bits.{bit_xor, xor_comm, xor_shifted}
use lib.Count.{ones, ones_cat, ones_step, ones_in, count_trailing_zeros}
use lib.Pow.{pow-lt, pow_pos}
use Rattle.gf2.proofs.Bit.{bit-pow_other, bit-pow_same, bit-xor, two_lt}
use Rattle.gf2.specs.Bit.{bit}
use Rattle.gf2.specs.Parity.{lowest}

pub ones_top : (n p : ℕ) → p < 2 ^ n → ones (2 ^ n + p) ≡ suc (ones p)
unfolding ones ones_in
ones_top n p h = ap (λ (x : ℕ). ones (x + p)) (sym (one-mul (2 ^ n))) ∙ ones_cat n 1 p h ∙ omega arith

pub ones_one : (i : ℕ) → ones (2 ^ i) ≡ 1
unfolding ones ones_in
ones_one i = ap ones (sym (add-zero (2 ^ i))) ∙ ones_top i 0 (pow_pos i)

pub ones_two : (i j : ℕ) → i < j → ones (2 ^ i + 2 ^ j) ≡ 2
ones_two i j h = ap ones (add_comm (2 ^ i) (2 ^ j)) ∙ ones_top j (2 ^ i) (pow-lt h) ∙ ap suc (ones_one i)

pub ones_three : (i j k : ℕ) → i < j → j < k → ones (2 ^ i + 2 ^ j + 2 ^ k) ≡ 3
ones_three i j k h g =
    ap ones (add_comm (2 ^ i + 2 ^ j) (2 ^ k)) ∙ ones_top k (2 ^ i + 2 ^ j) (two_lt k i j h g) ∙ ap suc (ones_two i j h)

pub ones_none : (n p : ℕ) → p < 2 ^ n → ones p ≡ 0 → p ≡ 0
ones_none zero p h e = omega arith
ones_none (suc n) p h e = omega (arith, ones_step p, ones_none n (p / 2) (omega arith) (omega (arith, ones_step p)))

-- ---- a parity with one wire, two or three, by its wires

-- its highest wire, and the others
record Topped (n p k : ℕ) : Type 0 where
  pub top : ℕ
  pub others : ℕ
  pub inside : top < n
  pub under : others < 2 ^ top
  pub fewer : ones others ≡ k
  pub is : p ≡ others + 2 ^ top

topped : (n p k : ℕ) → p < 2 ^ n → ones p ≡ suc k → Topped n p k
unfolding ones ones_in
topped zero p k h e = let z : p ≡ 0 = omega arith in absurd (omega (arith, ap ones z))
topped (suc n) p k h e = go (dec_lt p (2 ^ n)) (λ g. topped n p k g e)
  where
    go : Dec (p < 2 ^ n) → (p < 2 ^ n → Topped n p k) → Topped (suc n) p k
    go (yes g) r =
        let t = r g in
        record {
          top = t.top;
          others = t.others;
          inside = omega (arith, t.inside);
          under = t.under;
          fewer = t.fewer;
          is = t.is;
        }
    go (no g) r =
        let o : ℕ = p - 2 ^ n in
        let l : o < 2 ^ n = omega arith in
        let s : p ≡ 2 ^ n + o = omega arith in
        record {
          top = n;
          others = o;
          inside = omega arith;
          under = l;
          fewer = omega (arith, ap ones s, ones_top n o l);
          is = omega arith;
        }

pub is_one : (n p : ℕ) → p < 2 ^ n → ones p ≡ 1 → (i : ℕ) × (i < n) × (p ≡ 2 ^ i)
is_one n p h e =
    let t = topped n p 0 h e in
    (t.top, t.inside, omega (arith, t.is, ones_none t.top t.others t.under t.fewer))

pub is_two : (n p : ℕ) → p < 2 ^ n → ones p ≡ 2 → (i : ℕ) × (j : ℕ) × (i < j) × (j < n) × (p ≡ 2 ^ i + 2 ^ j)
is_two n p h e =
    let t = topped n p 1 h e in
    let s = is_one t.top t.others t.under t.fewer in
    (s.0, t.top, s.1, t.inside, omega (arith, t.is, s.2))

pub is_three : (n p : ℕ) → p < 2 ^ n → ones p ≡ 3
    → (i : ℕ) × (j : ℕ) × (k : ℕ) × (i < j) × (j < k) × (k < n) × (p ≡ 2 ^ i + 2 ^ j + 2 ^ k)
is_three n p h e =
    let t = topped n p 2 h e in
    let s = is_two t.top t.others t.under t.fewer in
    (s.0, s.1, t.top, s.2, s.3, t.inside, omega (arith, t.is, s.4))

pub low_one : (k i : ℕ) → i < k → lowest k (2 ^ i) ≡ i
unfolding count_trailing_zeros
low_one zero i h = absurd (omega arith)
low_one (suc k) zero h = refl
low_one (suc k) (suc i) h =
    let e : 2 ^ suc i % 2 ≡ 0 = omega arith in
    let f : 2 ^ suc i / 2 ≡ 2 ^ i = omega arith in
    rw (e, f) (ap suc (low_one k i (omega arith)))

pub low_two : (k i j : ℕ) → i < j → i < k → lowest k (2 ^ i + 2 ^ j) ≡ i
unfolding count_trailing_zeros
low_two zero i j g h = absurd (omega arith)
low_two (suc k) i zero g h = absurd (omega arith)
low_two (suc k) zero (suc j) g h = let e : (1 + 2 ^ suc j) % 2 ≡ 1 = omega arith in rw e
low_two (suc k) (suc i) (suc j) g h =
    let e : (2 ^ suc i + 2 ^ suc j) % 2 ≡ 0 = omega arith in
    let f : (2 ^ suc i + 2 ^ suc j) / 2 ≡ 2 ^ i + 2 ^ j = omega arith in
    rw (e, f) (ap suc (low_two k i j (omega arith) (omega arith)))

pub next_two : (k i j : ℕ) → i < j → j < k → lowest k (2 ^ i + 2 ^ j - 2 ^ i) ≡ j
next_two k i j g h = ap (lowest k) (omega arith) ∙ low_one k j h

pub two_is_xor : (i j : ℕ) → i < j → bit_xor (2 ^ i) (2 ^ j) ≡ 2 ^ i + 2 ^ j
two_is_xor i j h =
    xor_comm (2 ^ i) (2 ^ j) ∙ ap (λ (x : ℕ). bit_xor x (2 ^ i)) (sym (one-mul (2 ^ j))) ∙ xor_shifted 1 j (2 ^ i) (pow-lt h)
    ∙ omega arith

pub three_is_xor : (i j k : ℕ) → i < j → j < k → bit_xor (bit_xor (2 ^ i) (2 ^ j)) (2 ^ k) ≡ 2 ^ i + 2 ^ j + 2 ^ k
three_is_xor i j k h g =
    ap (λ (x : ℕ). bit_xor x (2 ^ k)) (two_is_xor i j h) ∙ xor_comm (2 ^ i + 2 ^ j) (2 ^ k)
    ∙ ap (λ (x : ℕ). bit_xor x (2 ^ i + 2 ^ j)) (sym (one-mul (2 ^ k)))
    ∙ xor_shifted 1 k (2 ^ i + 2 ^ j) (two_lt k i j h g) ∙ omega arith

bit-two : (i j a : ℕ) → i < j → bit (2 ^ i + 2 ^ j) a ≡ (bit (2 ^ i) a + bit (2 ^ j) a) % 2
bit-two i j a h = ap (λ (x : ℕ). bit x a) (sym (two_is_xor i j h)) ∙ bit-xor (2 ^ i) (2 ^ j) a

pub bit-two_low : (i j : ℕ) → i < j → bit (2 ^ i + 2 ^ j) i ≡ 1
bit-two_low i j h = bit-two i j i h ∙ rw (bit-pow_same i, bit-pow_other j i (omega arith))

pub bit-two_high : (i j : ℕ) → i < j → bit (2 ^ i + 2 ^ j) j ≡ 1
bit-two_high i j h = bit-two i j j h ∙ rw (bit-pow_same j, bit-pow_other i j (omega arith))

pub bit-two_other : (i j a : ℕ) → i < j → a ≢ i → a ≢ j → bit (2 ^ i + 2 ^ j) a ≡ 0
bit-two_other i j a h n m = bit-two i j a h ∙ rw (bit-pow_other i a (λ e. n (sym e)), bit-pow_other j a (λ e. m (sym e)))
