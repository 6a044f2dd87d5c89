-- Hex digits by cases: which bytes are digits, and that a digit and its number give each other back.
use mathlib.Core.Bool.{Bool, false, false≢true, true}
use mathlib.Core.List.{List}
use mathlib.Core.Path.{◌∙◌, ◌≡◌, sym}
use Prim.Native.Nat.{◌+◌, ◌-◌, ◌<◌, ◌≤◌, ℕ}
use native.Mathlib.Decide.{dec_le, dec_lt}
use native.Mathlib.Omega.{arith}
use lib.Chars.{codes}
use lib.Dec.{eqb, eqb→eq}
use lib.ListN.{get_or}
use borrow.Author.Tests.{le-leb, le-ltb, lt-leb, lt-ltb, ne_eqb}
use Rattle.gf2.proofs.Every.{every-at}
use Rattle.gf2.specs.Every.{every}
use Rattle.text.specs.Hex.{digit, is_digit, newline, value_of}

-- ---- which bytes are digits, and of what

-- whether b is a digit, and the number that it stands for
pub record Means (b : ℕ) (is : Bool) (v : ℕ) : Type 0 where
  pub digit : is_digit b ≡ is
  pub value : value_of b ≡ v

module _ (b : ℕ) where
  pub decimal : 48 ≤ b → b ≤ 57 → Means b true (b - 48)
  unfolding is_digit value_of
  decimal h k = record { digit = simp (le-leb 48 b h, le-leb b 57 k); value = simp (le-leb 48 b h, le-leb b 57 k) }

  pub letter : 97 ≤ b → b ≤ 102 → Means b true (b - 87)
  unfolding is_digit value_of
  letter h k =
      let a = le-leb 48 b (omega arith) in
      let d = lt-leb b 57 (omega arith) in
      record { digit = simp (a, d, le-leb 97 b h, le-leb b 102 k); value = simp (a, d, le-leb 97 b h, le-leb b 102 k) }

  pub below : b < 48 → Means b false 0
  unfolding is_digit value_of
  below h =
      let d = lt-leb 97 b (omega arith) in
      record { digit = simp (lt-leb 48 b h, d); value = simp (lt-leb 48 b h, d) }

  pub between : 57 < b → b < 97 → Means b false 0
  unfolding is_digit value_of
  between h k =
      let a = le-leb 48 b (omega arith) in
      record { digit = simp (a, lt-leb b 57 h, lt-leb 97 b k); value = simp (a, lt-leb b 57 h, lt-leb 97 b k) }

  pub above : 102 < b → Means b false 0
  unfolding is_digit value_of
  above h =
      let a = le-leb 48 b (omega arith) in
      let d = lt-leb b 57 (omega arith) in
      let e = le-leb 97 b (omega arith) in
      record { digit = simp (a, d, e, lt-leb b 102 h); value = simp (a, d, e, lt-leb b 102 h) }

-- ---- numbers and their digits

pub low_digit : (v : ℕ) → v < 10 → digit v ≡ 48 + v
unfolding digit
low_digit v h = simp (lt-ltb v 10 h)

pub high_digit : (v : ℕ) → 10 ≤ v → digit v ≡ 87 + v
unfolding digit
high_digit v h = simp (le-ltb v 10 h)

-- the sixteen digits in order, as the code has them
abbrev digits : List ℕ
digits = codes "0123456789abcdef"

pub digit_at : (v : ℕ) → v < 16 → get_or digits v 0 ≡ digit v
unfolding digit every
digit_at v h = eqb→eq (get_or digits v 0) (digit v) (every-at 16 (λ i. eqb (get_or digits i 0) (digit i)) tt v h)

-- a digit is a decimal or a letter
pub data Digit (b : ℕ) : Type 0 where
  low : 48 ≤ b → b ≤ 57 → Digit b
  high : 97 ≤ b → b ≤ 102 → Digit b

pub which : (b : ℕ) → is_digit b ≡ true → Digit b
which b e = go (dec_lt b 48) (dec_le b 57) (dec_lt b 97) (dec_le b 102)
  where
    go : Dec (b < 48) → Dec (b ≤ 57) → Dec (b < 97) → Dec (b ≤ 102) → Digit b
    go (yes h) _ _ _ = absurd (false≢true (sym (below b h).digit ∙ e))
    go (no h) (yes k) _ _ = low (omega arith) k
    go (no h) (no k) (yes l) _ = absurd (false≢true (sym (between b (omega arith) l).digit ∙ e))
    go (no h) (no k) (no l) (yes m) = high (omega arith) m
    go (no h) (no k) (no l) (no m) = absurd (false≢true (sym (above b (omega arith)).digit ∙ e))

pub not_newline : (b : ℕ) → is_digit b ≡ true → eqb b newline ≡ false
not_newline b e = go (which b e)
  where
    go : Digit b → eqb b newline ≡ false
    go (low h k) = ne_eqb b newline (λ z. omega arith)
    go (high h k) = ne_eqb b newline (λ z. omega arith)

pub digit_value : (b : ℕ) → is_digit b ≡ true → digit (value_of b) ≡ b
digit_value b e = go (which b e)
  where
    go : Digit b → digit (value_of b) ≡ b
    go (low h k) = rw (decimal b h k).value (low_digit (b - 48) (omega arith) ∙ omega arith)
    go (high h k) = rw (letter b h k).value (high_digit (b - 87) (omega arith) ∙ omega arith)

pub value_lt : (b : ℕ) → is_digit b ≡ true → value_of b < 16
value_lt b e = go (which b e)
  where
    go : Digit b → value_of b < 16
    go (low h k) = omega (arith, (decimal b h k).value)
    go (high h k) = omega (arith, (letter b h k).value)

pub value_digit : (v : ℕ) → v < 16 → Means (digit v) true v
value_digit v h = go (dec_lt v 10)
  where
    go : Dec (v < 10) → Means (digit v) true v
    go (yes k) =
        let m = decimal (48 + v) (omega arith) (omega arith) in
        rw (low_digit v k) (record { digit = m.digit; value = m.value ∙ omega arith })
    go (no k) =
        let m = letter (87 + v) (omega arith) (omega arith) in
        rw (high_digit v (omega arith)) (record { digit = m.digit; value = m.value ∙ omega arith })
