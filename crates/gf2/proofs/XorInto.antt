-- The numbers at the places of a mask, xored into place t of a list.
-- What that does to every combination, and that it undoes itself.
use mathlib.Core.List.{List}
use mathlib.Core.Path.{ap, ap₂, sym, ◌∙◌, ◌≡◌}
use Prim.Native.Nat.{◌%◌, ◌<◌, ◌^◌, suc, zero, ℕ}
use native.Mathlib.Nat.{zero-mul}
use native.Mathlib.Omega.{arith}
use lib.Bits.{bit_xor, xor_zero_r}
use lib.ListN.{get_or, length, set}
use lib.Seq.{get_or-set_same, set-get_or, set-set}
use Rattle.gf2.proofs.Selection.{remask, combine-add, combine-first, combine-next}
use Rattle.gf2.proofs.Xor.{xor_cancel}
use Rattle.gf2.specs.Bit.{bit}
use Rattle.gf2.specs.Selection.{combine}

-- lists that agree below k have the same combinations of places below k
pub combine-agree : (k s : ℕ) (xs ys : List ℕ) → ((i : ℕ) → i < k → get_or xs i 0 ≡ get_or ys i 0)
    → combine (s % 2 ^ k) xs ≡ combine (s % 2 ^ k) ys
combine-agree zero s xs ys h = combine-first s xs ∙ sym (combine-first s ys)
combine-agree (suc k) s xs ys h =
    rw (combine-next s k xs, combine-next s k ys, combine-agree k s xs ys (λ i l. h i (omega arith)), h k (omega arith))

abbrev pub xor_into : ℕ → ℕ → List ℕ → List ℕ
xor_into t q ys = set ys t (bit_xor (get_or ys t 0) (combine q ys))

pub combine-into : (s t q : ℕ) (ys : List ℕ) → t < length ys → combine s (xor_into t q ys) ≡ combine (remask t q s) ys
combine-into s t q ys h = combine-add s t q ys h

module _ (t q : ℕ) (off : bit q t ≡ 0) where
  -- a mask that does not name t sees no change
  pub into_unseen : (ys : List ℕ) → t < length ys → combine q (xor_into t q ys) ≡ combine q ys
  into_unseen ys h = combine-into q t q ys h ∙ ap (λ (m : ℕ). combine m ys) same
    where
      same : remask t q q ≡ q
      same = rw (off, zero-mul q) (xor_zero_r q)

  pub into_twice : (ys : List ℕ) → t < length ys → xor_into t q (xor_into t q ys) ≡ ys
  into_twice ys h =
      let v : ℕ = bit_xor (get_or ys t 0) (combine q ys) in
      set-set ys t v (bit_xor (get_or (set ys t v) t 0) (combine q (set ys t v)))
      ∙ ap (set ys t) (ap₂ bit_xor (get_or-set_same ys t v 0 h) (into_unseen ys h) ∙ xor_cancel (get_or ys t 0) (combine q ys))
      ∙ set-get_or ys t 0
