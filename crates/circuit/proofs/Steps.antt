-- One turn, and the end, of a loop that judges gates, and a shift, over plain numbers and lists.
use mathlib.Core.List.{List, [], ◌∷◌}
use mathlib.Core.Logic.{◌≢◌}
use mathlib.Core.Path.{ap, refl, sym, ◌∙◌, ◌≡◌}
use Prim.Native.Nat.{◌%◌, ◌*◌, ◌+◌, ◌<◌, ◌^◌, suc, ℕ}
use native.Mathlib.Nat.{mod-eq_of_lt, one-mul}
use native.Mathlib.Numerals.{add-one}
use lib.Pow.{pow-lt}
use Rattle.circuit.proofs.Judging.{refused}
use Rattle.circuit.specs.Faults.{first_fault, gate_fault, refuse}
use Rattle.circuit.specs.Gate.{Gate}
use Rattle.circuit.specs.Replies.{Done, Refused}

-- ---- the first fault

module _ (n i f : ℕ) (g : Gate) (rest : List Gate) (e : f ≡ gate_fault n g) where
  pub fault_here : f ≢ 0 → Refused f i ≡ first_fault n i (g ∷ rest)
  unfolding first_fault
  fault_here h = sym (refused f i (first_fault n (suc i) rest) h) ∙ ap (λ (x : ℕ). refuse x i (first_fault n (suc i) rest)) e

  pub fault_later : f ≡ 0 → first_fault n (i + 1) rest ≡ first_fault n i (g ∷ rest)
  unfolding first_fault
  fault_later h = rw (sym e ∙ h, add-one i) refl

pub no_fault : (n i : ℕ) (rest : List Gate) → rest ≡ [] → Done ≡ first_fault n i rest
unfolding first_fault
no_fault n i rest e = rw e refl

-- a shifted one stays within the width
pub shifted : (width i : ℕ) → i < width → 1 * 2 ^ i % 2 ^ width ≡ 2 ^ i
shifted width i l = rw (one-mul (2 ^ i)) (mod-eq_of_lt (pow-lt l))
