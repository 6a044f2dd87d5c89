-- The steps of the code on the slots, over plain numbers and lists.
use mathlib.Core.List.{List}
use mathlib.Core.Logic.{◌≢◌}
use mathlib.Core.Path.{◌∙◌, ◌≡◌, ap, sym}
use Prim.Native.Nat.{◌<◌, ◌^◌, ◌≤◌, ℕ}
use native.Mathlib.Decide.{dec_lt}
use native.Mathlib.Omega.{arith}
use lib.Bits.{bit_xor}
use lib.ListN.{get_or}
use lib.Pow.{pow_mono}
use Rattle.circuit.specs.Bits.{AllPassed, Passed}
use Rattle.circuit.specs.Limits.{product_bits}
use Rattle.circuit.specs.declared.bits.BitsOf.{BitsOf}
use Rattle.gf2.proofs.Basis.{by_off, by_on}
use Rattle.gf2.proofs.Echelon.{reached_step, step_lt}
use Rattle.gf2.proofs.Steady.{steady}
use Rattle.gf2.specs.Bit.{NextBit, bit}
use Rattle.gf2.specs.Echelon.{Reached, Shape, Stopped, by_members}
use Rattle.echelon.specs.Slots.{LeadingBit}

-- ---- the leading bit

-- the leading bit of a number below 2^N is one of N
pub leads_below : (N x s : ℕ) → x < 2 ^ N → 2 ^ s ≤ x → s < N
leads_below N x s l lo = go (dec_lt s N)
  where
    go : Dec (s < N) → s < N
    go (yes h) = h
    go (no g) = absurd (omega (arith, pow_mono {i = N} {j = s} (omega arith)))

-- ---- one step of reducing

module _ {vec : List ℕ} {left s : ℕ} (shape : Shape product_bits vec) (b : LeadingBit left s) where
  -- the slot is empty
  pub stops : {v used : ℕ} → get_or vec s 0 ≡ 0 → Reached vec v left used → Stopped product_bits vec v s left used
  stops e r = record { slot = b.slot; empty = e; lo = b.lo; hi = b.hi; reached = r }

  -- it is filled: what is left falls
  pub falls : get_or vec s 0 ≢ 0 → bit_xor left (get_or vec s 0) < left
  falls ne = omega (arith, step_lt product_bits vec shape s left b.slot b.hi b.lo ne, b.lo)

  -- and the slot is among those used
  pub taken : {v used : ℕ} → get_or vec s 0 ≢ 0 → Reached vec v left used
      → Reached vec v (bit_xor left (get_or vec s 0)) (bit_xor used (2 ^ s))
  taken {v} {used} ne r = reached_step vec product_bits v left used s shape b.slot b.lo b.hi ne r

-- ---- from slots to members: the loop over the slots

-- those passed were gone through, and the mask is that so far
pub record MaskTo (by : List ℕ) (used : ℕ) (l : BitsOf) : Type 0 where
  pub end_is : l.end ≡ product_bits
  pub is : l.mask ≡ by_members by used l.from

pub mask_start : (by : List ℕ) {used : ℕ} {l : BitsOf} → (l.mask ≡ used) × (l.from ≡ 0) × (l.end ≡ product_bits) → MaskTo by used l
unfolding by_members
mask_start by t = record { end_is = t.2; is = rw t.1 t.0 }

module _ {by : List ℕ} {used : ℕ} {l : BitsOf} (h : MaskTo by used l) where
  -- those up to the next that the mask names change nothing
  mask_at : {s : ℕ} → NextBit l.end l.mask l.from s → l.mask ≡ by_members by used s
  mask_at {s} next =
      h.is
      ∙ sym (steady (by_members by used) l.from s next.from
      (λ j f i e. by_off by used j (ap (λ (x : ℕ). bit x j) (e ∙ sym h.is) ∙ next.passed j f i) ∙ e))

  -- those that were taken off the column of the next are turned over
  pub mask_turn : {s : ℕ} {l' l'' : BitsOf} → Passed l s l'
      → (l''.mask ≡ bit_xor l'.mask (get_or by s 0)) × (l''.from ≡ l'.from) × (l''.end ≡ l'.end) → MaskTo by used l''
  mask_turn {s} p t =
      let is : l.mask ≡ by_members by used s = mask_at p.next in
      record {
        end_is = t.2 ∙ p.end_is ∙ h.end_is;
        is =
            rw (t.0, p.mask_is, t.1, p.from_is)
            (ap (λ (x : ℕ). bit_xor x (get_or by s 0)) is
            ∙ sym (by_on by used s (ap (λ (x : ℕ). bit x s) (sym is) ∙ p.next.on p.inside)));
      }

  -- all slots were passed
  pub mask_end : {l' : BitsOf} → AllPassed l l' → l'.mask ≡ by_members by used product_bits
  mask_end p = rw (p.same, ← h.end_is) (mask_at p.none)
