-- A set is balanced exactly if it xors to 0, and the pairs of wires of its bars, for the lowest wire of z, too; and the loop that takes
-- such a xor.
use mathlib.Core.List.{List, map}
use mathlib.Core.Logic.{◌↔◌, ◌≢◌}
use mathlib.Core.Path.{◌∙◌, ◌≡◌, ap, sym}
use Prim.Native.Nat.{◌+◌, ◌<◌, ◌^◌, suc, ℕ}
use native.Mathlib.Nat.{le_refl}
use native.Mathlib.Numerals.{add-one}
use lib.Bits.{bit_xor, xor_zero_r}
use lib.Dec.{eqb}
use lib.ListN.{drop, get_or, length}
use lib.Seq.{drop-cons, drop-length}
use Rattle.gf2.proofs.Leading.{lowest_set}
use Rattle.gf2.proofs.Over.{map_same}
use Rattle.gf2.proofs.Xor.{xor_assoc}
use Rattle.gf2.specs.Copies.{pairs}
use Rattle.gf2.specs.Over.{Below, xor_all}
use Rattle.gf2.specs.Parity.{lowest}
use Rattle.moves.proofs.OneXor.{balanced_pairs}
use Rattle.moves.specs.Column.{bar, bar_pairs}
use Rattle.moves.specs.Move.{Balanced}
use Rattle.gf2.proofs.Answers.{decides_as, decides_equal}
use Rattle.gf2.specs.Tests.{Decides}

-- what the loop keeps: s, with the f of those that are still to come, makes up the xor of all
pub record XorTo (f : ℕ → ℕ) (Y : List ℕ) (i s : ℕ) : Type 0 where
  pub all : bit_xor s (xor_all (map f (drop i Y))) ≡ xor_all (map f Y)

-- x is that of y, which stands at i
pub xor_next : {f : ℕ → ℕ} {Y : List ℕ} {i s x y : ℕ} → XorTo f Y i s → i < length Y → y ≡ get_or Y i 0 → x ≡ f y
    → XorTo f Y (i + 1) (bit_xor s x)
unfolding xor_all
xor_next {f} {Y} {i} {s} h l p q =
    record {
      all =
          rw (add-one i, q, p)
          (xor_assoc s (f (get_or Y i 0)) (xor_all (map f (drop (suc i) Y)))
          ∙ ap (λ (r : List ℕ). bit_xor s (xor_all (map f r))) (sym (drop-cons Y i 0 l)) ∙ h.all);
    }

pub xor_end : {f : ℕ → ℕ} {Y : List ℕ} {i s : ℕ} → XorTo f Y i s → i ≡ length Y → s ≡ xor_all (map f Y)
unfolding xor_all
xor_end {f} {Y} {i} {s} h e =
    sym (xor_zero_r s) ∙ ap (λ (q : List ℕ). bit_xor s (xor_all (map f q))) (sym (ap (λ (j : ℕ). drop j Y) e ∙ drop-length Y)) ∙ h.all

-- of the numbers themselves
pub xor_all_end : {Y : List ℕ} {i s : ℕ} → XorTo (λ y. y) Y i s → i ≡ length Y → s ≡ xor_all Y
xor_all_end {Y} h e = xor_end h e ∙ ap xor_all (map_same Y)

-- the pairs of wires of the bar of y, as code takes them
pub pairs_of_bar : (n z t y : ℕ) {b r : ℕ} → r ≡ pairs n b → b ≡ bar z t y → r ≡ bar_pairs n z t y
unfolding bar_pairs
pairs_of_bar n z t y e f = e ∙ ap (pairs n) f

-- s is the xor of Y, and v that of the pairs of wires of its bars for the lowest wire t of z; N is the most wires
module _ {N z t s v : ℕ} {Y : List ℕ} (some : z ≢ 0) (fits : z < 2 ^ N) (below : Below (2 ^ N) Y) (t_is : t ≡ lowest N z)
    (s_is : s ≡ xor_all Y) (v_is : v ≡ xor_all (map (bar_pairs N z t) Y)) where
  both : Balanced N z Y ↔ ((s ≡ 0) × (v ≡ 0))
  both =
      let low = lowest_set N N z (le_refl N) some fits in
      rw (s_is, v_is, t_is) (balanced_pairs N z (lowest N z) low.0 low.1 Y fits below)

  pub not_balanced : s ≢ 0 → Decides (eqb s 0) (Balanced N z Y)
  not_balanced ne = decides_as (λ e. absurd (ne e)) (λ b. (both.0 b).0) (decides_equal s 0)

  pub balanced_by_pairs : s ≡ 0 → Decides (eqb v 0) (Balanced N z Y)
  balanced_by_pairs e = decides_as (λ q. both.1 (e, q)) (λ b. (both.0 b).1) (decides_equal v 0)
