-- From a mask of slots to the set Y: the mark of each named slot's member is flipped, then the marks are listed.
-- Flipping makes it needless that members differ.
use mathlib.Core.List.{List, map}
use mathlib.Core.Logic.{◌≢◌}
use mathlib.Core.Path.{◌∙◌, ◌≡◌, ap, refl, subst, sym}
use Prim.Native.Nat.{◌%◌, ◌*◌, ◌+◌, ◌<◌, ◌^◌, ◌≤◌, suc, zero, ℕ}
use native.Mathlib.Decide.{ℕ_discrete}
use native.Mathlib.Nat.{le_refl, one-mul, zero-mul}
use native.Mathlib.Numerals.{add-one}
use native.Mathlib.Omega.{arith}
use lib.Bits.{bit_xor, xor_comm, xor_zero_r}
use lib.ListN.{get_or, length, length-replicate, length-set, replicate}
use lib.Seq.{get_or-set_other, get_or-set_same}
use Rattle.gf2.proofs.Bit.{bit-lt}
use Rattle.gf2.proofs.Combination.{get_d_map}
use Rattle.gf2.proofs.Over.{xor_all-more}
use Rattle.gf2.proofs.Selection.{combine-first, combine-next}
use Rattle.gf2.proofs.Sum.{sum-ext, sum-update, sum-zero}
use Rattle.gf2.proofs.Table.{get_or-zeros, weighted_sum-add_at}
use Rattle.gf2.specs.Bit.{bit}
use Rattle.gf2.specs.Over.{sum_over, xor_all}
use Rattle.gf2.specs.Selection.{combine}
use Rattle.gf2.specs.Sum.{sum}
use Rattle.gf2.specs.Table.{weighted_sum}
use Rattle.moves.proofs.Flips.{flip_bits, if_bits, if_length}
use Rattle.moves.proofs.Sets.{listed_ext, listed_none, listed_sum}
use Rattle.moves.specs.CarryOut.{flip, flip_if}
use Rattle.moves.specs.Pair.{named}
use Rattle.moves.specs.Sets.{listed}

-- a sum over the listed marks
marks_sum : (size : ℕ) (w : List ℕ) → length w ≡ size → ((p : ℕ) → get_or w p 0 < 2) → (c : ℕ → ℕ)
    → sum_over c (listed size (λ p. get_or w p 0)) ≡ weighted_sum w c
unfolding weighted_sum
marks_sum size w e two c = listed_sum (λ p. get_or w p 0) two size c ∙ ap (λ (k : ℕ). sum k (λ p. get_or w p 0 * c p)) (sym e)

-- flipping the mark of q xors v q into the xor over the set
pub flipped_xor : (size : ℕ) (v : ℕ → ℕ) (w : List ℕ) (q : ℕ) → length w ≡ size → ((p : ℕ) → get_or w p 0 < 2) → q < size
    → xor_all (map v (listed size (λ p. get_or (flip w q) p 0))) ≡ bit_xor (v q) (xor_all (map v (listed size (λ p. get_or w p 0))))
flipped_xor size v w q e two l =
    xor_all-more v q (listed size (λ p. get_or (flip w q) p 0)) (listed size (λ p. get_or w p 0))
    (λ c. ap (λ (x : ℕ). x % 2) (marks_sum size (flip w q) (length-set w q ((get_or w q 0 + 1) % 2) ∙ e) (λ p. flip_bits w q p (two p)) c)
    ∙ weighted_sum-add_at 2 w c q 1 (rw e l)
    ∙ ap (λ (x : ℕ). x % 2) (turn (weighted_sum w c) (c q) ∙ ap (λ (x : ℕ). c q + x) (sym (marks_sum size w e two c))))
  where
    turn : (x y : ℕ) → x + 1 * y ≡ y + x
    turn x y = omega arith

-- flipping a mark that stands takes one away
pub flipped_off : (w : List ℕ) (q : ℕ) → q < length w → get_or w q 0 ≡ 1
    → sum (length w) (λ p. get_or (flip w q) p 0) + 1 ≡ sum (length w) (λ p. get_or w p 0)
flipped_off w q l e =
    omega (
      arith,
      sum-update (length w) q (λ p. get_or w p 0) (λ p. get_or (flip w q) p 0) l
          (λ p k ne. sym (get_or-set_other w q p ((get_or w q 0 + 1) % 2) 0 ne)),
      get_or-set_same w q ((get_or w q 0 + 1) % 2) 0 l,
    )

-- flipping marks one more at most
pub flipped_few : (w : List ℕ) (q : ℕ) → q < length w → sum (length w) (λ p. get_or (flip w q) p 0) ≤ sum (length w) (λ p. get_or w p 0) + 1
flipped_few w q l =
    omega (
      arith,
      sum-update (length w) q (λ p. get_or w p 0) (λ p. get_or (flip w q) p 0) l
          (λ p k ne. sym (get_or-set_other w q p ((get_or w q 0 + 1) % 2) 0 ne)),
      get_or-set_same w q ((get_or w q 0 + 1) % 2) 0 l,
    )

module _ (size : ℕ) (member : List ℕ) (m : ℕ) where
  -- for a loop over the slots: a slot that m names, and one that it does not
  pub named_on : (k : ℕ) → bit m k ≡ 1 → named size member m (k + 1) ≡ flip (named size member m k) (get_or member k 0)
  unfolding named flip_if
  named_on k e = rw (add-one k) (ap (λ (b : ℕ). flip_if b (named size member m k) (get_or member k 0)) e)

  pub named_off : (k : ℕ) → bit m k ≡ 0 → named size member m (k + 1) ≡ named size member m k
  unfolding named flip_if
  named_off k e = rw (add-one k) (ap (λ (b : ℕ). flip_if b (named size member m k) (get_or member k 0)) e)

  pub named_length : (k : ℕ) → length (named size member m k) ≡ size
  unfolding named
  named_length zero = length-replicate size 0
  named_length (suc k) = if_length (bit m k) (named size member m k) (get_or member k 0) ∙ named_length k

  pub named_bits : (k p : ℕ) → get_or (named size member m k) p 0 < 2
  unfolding named
  named_bits zero p = rw (get_or-zeros size p) (omega arith)
  named_bits (suc k) p = if_bits (bit m k) (named size member m k) (get_or member k 0) p (named_bits k p)

  -- a mark that stands is a named member's
  pub named_from : (k p : ℕ) → get_or (named size member m k) p 0 ≢ 0 → (j : ℕ) × (j < k) × (bit m j ≡ 1) × (get_or member j 0 ≡ p)
  unfolding named flip_if
  named_from zero p ne = absurd (ne (get_or-zeros size p))
  named_from (suc k) p ne = go (bit m k) refl (ℕ_discrete (get_or member k 0) p) ne (λ q. named_from k p q)
    where
      Named : ℕ → Type 0
      Named k = (j : ℕ) × (j < k) × (bit m j ≡ 1) × (get_or member j 0 ≡ p)

      up : Named k → Named (suc k)
      up t = (t.0, omega (arith, t.1), t.2, t.3)

      go : (r : ℕ) → bit m k ≡ r → Dec (get_or member k 0 ≡ p) → get_or (flip_if r (named size member m k) (get_or member k 0)) p 0 ≢ 0
          → (get_or (named size member m k) p 0 ≢ 0 → Named k) → Named (suc k)
      go zero e d q ih = up (ih q)
      go (suc r) e (yes f) q ih = (k, le_refl _, omega (arith, bit-lt m k), f)
      go (suc r) e (no f) q ih = up (ih (λ z. q (get_or-set_other (named size member m k) (get_or member k 0) p _ 0 (λ x. f (sym x)) ∙ z)))

  -- the members that m names have marks
  abbrev pub Room : ℕ → Type 0
  Room k = (j : ℕ) → j < k → bit m j ≡ 1 → get_or member j 0 < size

  -- the xor over the set is the combination that the mask names
  pub named_xor : (v : ℕ → ℕ) (k : ℕ) → k ≤ length member → Room k
      → xor_all (map v (listed size (λ p. get_or (named size member m k) p 0))) ≡ combine (m % 2 ^ k) (map v member)
  unfolding named flip_if xor_all
  named_xor v zero h r =
      ap (λ (Y : List ℕ). xor_all (map v Y))
      (listed_ext size (λ p. get_or (replicate size 0) p 0) (λ p. 0) (λ p l. get_or-zeros size p) ∙ listed_none size)
      ∙ sym (combine-first m (map v member))
  named_xor v (suc k) h r = go (bit m k) refl (named_xor v k (omega arith) (λ j l. r j (omega arith)))
    where
      go : (e : ℕ) → bit m k ≡ e
          → xor_all (map v (listed size (λ p. get_or (named size member m k) p 0))) ≡ combine (m % 2 ^ k) (map v member)
          → xor_all (map v (listed size (λ p. get_or (flip_if e (named size member m k) (get_or member k 0)) p 0)))
          ≡ combine (m % 2 ^ suc k) (map v member)
      go zero e ih =
          ih
          ∙ sym (combine-next m k (map v member)
          ∙ rw (e, zero-mul (get_or (map v member) k 0)) (xor_zero_r (combine (m % 2 ^ k) (map v member))))
      go (suc zero) e ih =
          flipped_xor size v (named size member m k) (get_or member k 0) (named_length k) (named_bits k) (r k (le_refl _) e)
          ∙ ap (λ (x : ℕ). bit_xor (v (get_or member k 0)) x) ih ∙ xor_comm (v (get_or member k 0)) (combine (m % 2 ^ k) (map v member))
          ∙ sym (combine-next m k (map v member) ∙ rw (e, one-mul (get_or (map v member) k 0), get_d_map v member k h))
      go (suc (suc x)) e ih = absurd (omega (arith, bit-lt m k))

  pub named_few : (k : ℕ) → Room k → sum size (λ p. get_or (named size member m k) p 0) ≤ k
  unfolding named flip_if
  named_few zero r = omega (arith, sum-ext size (λ p. get_or (replicate size 0) p 0) (λ p. 0) (λ p l. get_or-zeros size p), sum-zero size)
  named_few (suc k) r = go (bit m k) refl (named_few k (λ j l. r j (omega arith)))
    where
      go : (e : ℕ) → bit m k ≡ e → sum size (λ p. get_or (named size member m k) p 0) ≤ k
          → sum size (λ p. get_or (flip_if e (named size member m k) (get_or member k 0)) p 0) ≤ suc k
      go zero e ih = omega arith
      go (suc zero) e ih =
          let w : List ℕ = named size member m k in
          let s : length w ≡ size = named_length k in
          let t : sum size (λ p. get_or (flip w (get_or member k 0)) p 0) ≤ sum size (λ p. get_or w p 0) + 1 =
          subst (λ (x : ℕ). sum x (λ p. get_or (flip w (get_or member k 0)) p 0) ≤ sum x (λ p. get_or w p 0) + 1) s
          (flipped_few w (get_or member k 0) (rw s (r k (le_refl _) e))) in
          omega arith
      go (suc (suc x)) e ih = absurd (omega (arith, bit-lt m k))
