-- The first line of a text by its bytes: it has the form exactly if the text starts with the digits and a newline, and the other lines are
-- then those of the rest.
use mathlib.Core.Bool.{Bool, ◌&&◌, and-false, cond, false, false≢true, true}
use mathlib.Core.List.{List, [], ◌∷◌}
use mathlib.Core.Path.{◌∙◌, ◌≡◌, ap, refl, sym}
use Prim.Native.Nat.{◌+◌, ◌<◌, ◌≤◌, suc, zero, ℕ}
use native.Mathlib.Numerals.{add-one}
use native.Mathlib.Omega.{arith}
use lib.Dec.{eqb}
use lib.ListN.{drop, get_or, length, length-drop, take}
use lib.Seq.{drop-cons, drop-drop}
use Rattle.std.specs.List.{list_all}
use Rattle.text.proofs.HexDigits.{not_newline}
use Rattle.text.specs.Hex.{is_digit, newline}
use Rattle.text.specs.Lines.{Line, are_digits, ended, first_formed, in_front, lines_of, longer, unended}

-- k digits, then a newline
unfoldable pub starts : ℕ → List ℕ → Bool
starts k [] = false
starts zero (b ∷ bs) = eqb b newline
starts (suc k) (b ∷ bs) = is_digit b && starts k bs

in_front_lem : (k b : ℕ) (ls : List Line) → first_formed (suc k) (in_front b ls) ≡ is_digit b && first_formed k ls
unfolding are_digits
in_front_lem k b [] = sym (and-false (is_digit b))
in_front_lem k b (ended bs ∷ ls) = refl
in_front_lem k b (unended bs ∷ ls) = sym (and-false (is_digit b))

none_in_front : (b : ℕ) (ls : List Line) → first_formed zero (in_front b ls) ≡ false
unfolding are_digits
none_in_front b [] = refl
none_in_front b (ended bs ∷ ls) = refl
none_in_front b (unended bs ∷ ls) = refl

module _ (k b : ℕ) (ls : List Line) (more : List Line) where
  no_digit : (e : Bool) → is_digit b ≡ false → first_formed (suc k) (cond e (ended [] ∷ more) (in_front b ls)) ≡ false
  unfolding are_digits
  no_digit true d = refl
  no_digit false d = in_front_lem k b ls ∙ rw d

pub first_formed_lem : (k : ℕ) (t : List ℕ) → starts k t ≡ first_formed k (lines_of t)
unfolding starts lines_of are_digits
first_formed_lem k [] = refl
first_formed_lem zero (b ∷ bs) = go (eqb b newline) refl
  where
    go : (e : Bool) → eqb b newline ≡ e → e ≡ first_formed zero (cond e (ended [] ∷ lines_of bs) (in_front b (lines_of bs)))
    go true h = refl
    go false h = sym (none_in_front b (lines_of bs))
first_formed_lem (suc k) (b ∷ bs) = go (is_digit b) refl (first_formed_lem k bs)
  where
    go : (e : Bool) → is_digit b ≡ e → starts k bs ≡ first_formed k (lines_of bs)
        → e && starts k bs ≡ first_formed (suc k) (cond (eqb b newline) (ended [] ∷ lines_of bs) (in_front b (lines_of bs)))
    go true h ih = rw (not_newline b h) (ih ∙ sym (in_front_lem k b (lines_of bs) ∙ rw h))
    go false h ih = sym (no_digit k b (lines_of bs) (lines_of bs) (eqb b newline) h)

pub and_both : (a b : Bool) → a && b ≡ true → (a ≡ true) × (b ≡ true)
and_both true b e = (refl, e)
and_both false b e = absurd (false≢true e)

and_true : (a : Bool) → a && true ≡ a
and_true true = refl
and_true false = refl

pub first_line : (k : ℕ) (t : List ℕ) → starts k t ≡ true → lines_of t ≡ ended (take k t) ∷ lines_of (drop (suc k) t)
unfolding starts lines_of
first_line k [] e = absurd (false≢true e)
first_line zero (b ∷ bs) e = rw e
first_line (suc k) (b ∷ bs) e =
    let h = and_both (is_digit b) (starts k bs) e in
    rw (not_newline b h.0) (ap (in_front b) (first_line k bs h.1))

pub starts_long : (k : ℕ) (t : List ℕ) → starts k t ≡ true → k < length t
unfolding starts
starts_long k [] e = absurd (false≢true e)
starts_long zero (b ∷ bs) e = omega arith
starts_long (suc k) (b ∷ bs) e = omega (arith, starts_long k bs (and_both (is_digit b) (starts k bs) e).1)

some : (b : ℕ) (bs : List ℕ) → (l : Line) × (ls : List Line) × (lines_of (b ∷ bs) ≡ l ∷ ls)
unfolding lines_of
some b bs = go (eqb b newline) (lines_of bs)
  where
    go : (e : Bool) (more : List Line) → (l : Line) × (ls : List Line) × (cond e (ended [] ∷ lines_of bs) (in_front b more) ≡ l ∷ ls)
    go true more = (ended [], lines_of bs, refl)
    go false [] = (unended (b ∷ []), [], refl)
    go false (l ∷ ls) = (longer b l, ls, refl)

-- ---- at a place of the text

module _ (t : List ℕ) (at : ℕ) where
  pub formed_long : (k : ℕ) → first_formed k (lines_of (drop at t)) ≡ true → at + k < length t
  formed_long k e = omega (arith, length-drop at t, starts_long k (drop at t) (first_formed_lem k (drop at t) ∙ e))

  pub formed_lines : (k : ℕ) → first_formed k (lines_of (drop at t)) ≡ true
      → lines_of (drop at t) ≡ ended (take k (drop at t)) ∷ lines_of (drop (at + (k + 1)) t)
  formed_lines k e =
      first_line k (drop at t) (first_formed_lem k (drop at t) ∙ e)
      ∙ ap (λ (l : List ℕ). ended (take k (drop at t)) ∷ lines_of l)
      (drop-drop (suc k) at t ∙ ap (λ (m : ℕ). drop (at + m) t) (sym (add-one k)))

  pub some_line : at < length t → (l : Line) × (ls : List Line) × (lines_of (drop at t) ≡ l ∷ ls)
  some_line h = rw (drop-cons t at 0 h) (some (get_or t at 0) (drop (suc at) t))

-- ---- by its first bytes

starts_take : (k m : ℕ) (t : List ℕ) → k < m → starts k (take m t) ≡ starts k t
unfolding starts
starts_take k zero t h = absurd (omega arith)
starts_take k (suc m) [] h = refl
starts_take zero (suc m) (b ∷ t) h = refl
starts_take (suc k) (suc m) (b ∷ t) h = rw (starts_take k m t (omega arith))

pub formed_take : (k m : ℕ) (t : List ℕ) → k < m → first_formed k (lines_of (take m t)) ≡ first_formed k (lines_of t)
formed_take k m t h = sym (first_formed_lem k (take m t)) ∙ starts_take k m t h ∙ first_formed_lem k t

-- ---- by its bytes: so many of them are there, the one behind the digits is the newline, and each before it is a digit

starts_by : (k : ℕ) (t : List ℕ) → k < length t → starts k t ≡ list_all is_digit (take k t) && eqb (get_or t k 0) newline
unfolding starts
starts_by k [] h = absurd (omega arith)
starts_by zero (b ∷ bs) h = refl
starts_by (suc k) (b ∷ bs) h = go (is_digit b) (starts_by k bs (omega arith))
  where
    go : (d : Bool) → starts k bs ≡ list_all is_digit (take k bs) && eqb (get_or bs k 0) newline
        → d && starts k bs ≡ (d && list_all is_digit (take k bs)) && eqb (get_or bs k 0) newline
    go true e = e
    go false e = refl

module _ (t : List ℕ) (k : ℕ) where
  pub too_short : length t ≤ k → false ≡ first_formed k (lines_of t)
  too_short h = go (first_formed k (lines_of t)) refl
    where
      go : (e : Bool) → first_formed k (lines_of t) ≡ e → false ≡ e
      go true e = absurd (omega (arith, formed_long t 0 k e))
      go false e = refl

  module _ (long : k < length t) where
    by_bytes : list_all is_digit (take k t) && eqb (get_or t k 0) newline ≡ first_formed k (lines_of t)
    by_bytes = sym (starts_by k t long) ∙ first_formed_lem k t

    pub not_ended : eqb (get_or t k 0) newline ≡ false → false ≡ first_formed k (lines_of t)
    not_ended e = sym (and-false (list_all is_digit (take k t))) ∙ (rw e at by_bytes)

    pub all_digits : eqb (get_or t k 0) newline ≡ true → list_all is_digit (take k t) ≡ first_formed k (lines_of t)
    all_digits e = sym (and_true (list_all is_digit (take k t))) ∙ (rw e at by_bytes)
