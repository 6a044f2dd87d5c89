-- Flipped marks: mark 0 is cleared; one turn of the loop that carries out a move; marks stay 0 or 1, and as many.
use mathlib.Core.List.{List, [], ◌∷◌}
use mathlib.Core.Path.{◌∙◌, ◌≡◌, ap, refl, sym}
use Prim.Native.Nat.{◌%◌, ◌+◌, ◌<◌, suc, zero, ℕ}
use native.Mathlib.Numerals.{add-one}
use native.Mathlib.Omega.{arith}
use lib.Bits.{bit_xor}
use lib.ListN.{drop, get_or, length, length-set, set}
use lib.Seq.{drop-cons, drop-length}
use Rattle.moves.specs.CarryOut.{carry_out, flip, flip_if, flip_pairs}

-- mark 0 is cleared
cleared : (w : List ℕ) → get_or (set w 0 0) 0 0 ≡ 0
cleared [] = refl
cleared (x ∷ w) = refl

pub clear_carry_out : (marks : List ℕ) (z : ℕ) (Y : List ℕ) → get_or (carry_out marks z Y) 0 0 ≡ 0
unfolding carry_out
clear_carry_out marks z Y = rw cleared

-- ---- for a loop over Y: what it keeps is `flip_pairs now z (drop i Y) ≡ flip_pairs before z Y`

-- one turn of it
pub pairs_next : (w w₁ w₂ R : List ℕ) (z : ℕ) (Y : List ℕ) (i : ℕ) → i < length Y → w₁ ≡ flip w (get_or Y i 0)
    → w₂ ≡ flip w₁ (bit_xor (get_or Y i 0) z) → flip_pairs w z (drop i Y) ≡ R → flip_pairs w₂ z (drop (i + 1) Y) ≡ R
unfolding flip_pairs
pairs_next w w₁ w₂ R z Y i l e₁ e₂ h = rw (e₂, e₁, add-one i) (ap (λ (q : List ℕ). flip_pairs w z q) (sym (drop-cons Y i 0 l)) ∙ h)

-- its end
pub pairs_end : (w R : List ℕ) (z : ℕ) (Y : List ℕ) (i : ℕ) → i ≡ length Y → flip_pairs w z (drop i Y) ≡ R → w ≡ R
unfolding flip_pairs
pairs_end w R z Y i e h = ap (λ (q : List ℕ). flip_pairs w z q) (sym (ap (λ (j : ℕ). drop j Y) e ∙ drop-length Y)) ∙ h

-- ---- marks stay 0 or 1, and stay as many

pub set-bits : (w : List ℕ) (q v p : ℕ) → v < 2 → get_or w p 0 < 2 → get_or (set w q v) p 0 < 2
set-bits [] q v p h b = b
set-bits (x ∷ w) zero v zero h b = h
set-bits (x ∷ w) zero v (suc p) h b = b
set-bits (x ∷ w) (suc q) v zero h b = b
set-bits (x ∷ w) (suc q) v (suc p) h b = set-bits w q v p h b

pub flip_bits : (w : List ℕ) (q p : ℕ) → get_or w p 0 < 2 → get_or (flip w q) p 0 < 2
flip_bits w q p b = set-bits w q ((get_or w q 0 + 1) % 2) p (omega arith) b

pairs_bits : (w : List ℕ) (z : ℕ) (Y : List ℕ) (p : ℕ) → get_or w p 0 < 2 → get_or (flip_pairs w z Y) p 0 < 2
unfolding flip_pairs
pairs_bits w z [] p b = b
pairs_bits w z (y ∷ Y) p b = pairs_bits (flip (flip w y) (bit_xor y z)) z Y p (flip_bits (flip w y) (bit_xor y z) p (flip_bits w y p b))

pub if_bits : (r : ℕ) (w : List ℕ) (z p : ℕ) → get_or w p 0 < 2 → get_or (flip_if r w z) p 0 < 2
unfolding flip_if
if_bits zero w z p b = b
if_bits (suc r) w z p b = flip_bits w z p b

pub pairs_length : (w : List ℕ) (z : ℕ) (Y : List ℕ) → length (flip_pairs w z Y) ≡ length w
unfolding flip_pairs
pairs_length w z [] = refl
pairs_length w z (y ∷ Y) = pairs_length (flip (flip w y) (bit_xor y z)) z Y ∙ simp length-set

pub if_length : (r : ℕ) (w : List ℕ) (z : ℕ) → length (flip_if r w z) ≡ length w
unfolding flip_if
if_length zero w z = refl
if_length (suc r) w z = simp length-set

pub carry_out-length : (marks : List ℕ) (z : ℕ) (Y : List ℕ) → length (carry_out marks z Y) ≡ length marks
unfolding carry_out
carry_out-length marks z Y = simp (length-set, if_length, pairs_length)

pub carry_out-bits : (marks : List ℕ) (z : ℕ) (Y : List ℕ) (p : ℕ) → get_or marks p 0 < 2 → get_or (carry_out marks z Y) p 0 < 2
unfolding carry_out
carry_out-bits marks z Y p b =
    let w : List ℕ = flip_if (length Y % 2) (flip_pairs marks z Y) z in
    set-bits w 0 0 p (omega arith) (if_bits (length Y % 2) (flip_pairs marks z Y) z p (pairs_bits marks z Y p b))
