-- Writing the weights: one turn, and the end, of each loop of the code, and each way out of a match, over plain numbers and lists.
use mathlib.Core.List.{◌++◌, List, [], ◌∷◌, append-nil}
use mathlib.Core.Logic.{◌≢◌}
use mathlib.Core.Path.{◌∙◌, ◌≡◌, ap, refl, subst}
use Prim.Native.Nat.{◌+◌, ◌<◌, ◌^◌, suc, zero, ℕ, ◌≤◌}
use native.Mathlib.Decide.{ℕ_discrete}
use native.Mathlib.Nat.{le_refl}
use native.Mathlib.Numerals.{add-one}
use native.Mathlib.Omega.{arith}
use lib.Bits.{bit_xor}
use lib.ListN.{get_or, length, length-append, length-map, length-take, take}
use lib.Seq.{get_or-take, length-take-le, take_all}
use Rattle.std.proofs.lemmas.List.{map-append, take_more}
use lib.Pow.{pow_mono}
use Rattle.circuit.specs.Bits.{AllPassed, Passed}
use Rattle.circuit.specs.Gate.{CNOT, Gate, gate}
use Rattle.circuit.specs.Kinds.{kind_byte}
use Rattle.circuit.specs.Limits.{max_wires, parities}
use Rattle.circuit.specs.Sound.{weight}
use Rattle.circuit.specs.declared.bits.BitsOf.{BitsOf}
use Rattle.circuit.specs.declared.gates.GateKind.{GateKind}
use Rattle.circuit.specs.declared.wires.Wires.{Wires}
use Rattle.gf2.proofs.Steady.{steady}
use Rattle.gf2.specs.Bit.{NextBit, bit}
use Rattle.gf2.specs.Parity.{lowest}
use Rattle.written.proofs.AllParities.{phases_grow}
use Rattle.written.specs.Spelling.{spell}
use Rattle.written.specs.Writing.{around, cnot_if, cnots, others, write_parity, write_phases}
use Rattle.synth.proofs.Stores.{room_first, room_then, stored_none, stored_then}
use Rattle.synth.specs.Storing.{ParityReady, PhasesReady, Room, Stored, on_wire}
use Rattle.synth.specs.declared.storing.Writer.{Writer}

-- ---- a CNOT from each wire of a mask

cnots_grow : (q t i n : ℕ) → i ≤ n → length (cnots i q t) ≤ length (cnots n q t)
unfolding cnots
cnots_grow q t i zero l = let e : i ≡ 0 = omega arith in rw e (le_refl 0)
cnots_grow q t i (suc n) l = go (ℕ_discrete i (suc n)) (λ h. cnots_grow q t i n h)
  where
    go : Dec (i ≡ suc n) → (i ≤ n → length (cnots i q t) ≤ length (cnots n q t))
        → length (cnots i q t) ≤ length (cnots n q t ++ cnot_if (bit q n) n t)
    go (yes e) f = rw e (le_refl _)
    go (no e) f = omega (arith, f (omega arith), length-append (cnots n q t) (cnot_if (bit q n) n t))

-- those from the wires passed are stored
pub record CnotsTo (n q t : ℕ) (w w' : Writer) (l : BitsOf) : Type 0 where
  pub mask_is : l.mask ≡ q
  pub end_is : l.end ≡ n
  pub stored : Stored w w' (cnots l.from q t)

pub cnots_first : (n q t : ℕ) (w : Writer) {m : ℕ} {l : BitsOf} → m ≡ q → (l.mask ≡ m) × (l.from ≡ 0) × (l.end ≡ n)
    → CnotsTo n q t w w l
unfolding cnots
cnots_first n q t w same e = record { mask_is = e.0 ∙ same; end_is = e.2; stored = rw e.1 (stored_none w) }

-- the wires between have none
cnots_at : (N q t k i m : ℕ) → NextBit N q k i → k ≤ m → m ≤ i → cnots m q t ≡ cnots k q t
unfolding cnots cnot_if
cnots_at N q t k i m next f l =
    steady (λ m. cnots m q t) k m f (λ m a b e. rw (add-one m, next.passed m a (omega arith)) (append-nil (cnots m q t) ∙ e))

module _ {n q t : ℕ} {w w' : Writer} {l : BitsOf} (h : CnotsTo n q t w w' l) where
  pub cnots_end : {l' : BitsOf} → AllPassed l l' → Stored w w' (cnots n q t)
  cnots_end e = rw (← h.end_is, cnots_at l.end q t l.from l.end l.end (rw h.mask_is at e.none) l.inside.0 (le_refl l.end)) h.stored

  module _ {i : ℕ} {l' : BitsOf} (b : Passed l i l') where
    one_more : cnots (i + 1) q t ≡ cnots l.from q t ++ (gate CNOT i t ∷ [])
    unfolding cnots cnot_if
    one_more =
        let next : NextBit l.end q l.from i = rw h.mask_is at b.next in
        rw (add-one i, next.on b.inside, cnots_at l.end q t l.from i i next next.from (le_refl i))

    pub cnots_room : Room w (cnots n q t) → Room w' (gate CNOT i t ∷ [])
    cnots_room r = room_then h.stored (gate CNOT i t ∷ []) (rw one_more at fits)
      where
        fits : Room w (cnots (i + 1) q t)
        fits = omega (arith, cnots_grow q t (i + 1) n (omega (arith, b.inside, h.end_is)))

    pub cnots_turn : {w'' : Writer} → Stored w' w'' (gate CNOT i t ∷ []) → CnotsTo n q t w w'' l'
    cnots_turn u =
        record {
          mask_is = b.mask_is ∙ h.mask_is;
          end_is = b.end_is ∙ h.end_is;
          stored = rw (b.from_is, one_more) (stored_then h.stored u);
        }

-- ---- the spelling

pub kinds_first : (w : Writer) (t : ℕ) → Stored w w (on_wire t [])
kinds_first w t = stored_none w

-- one kind more is stored: there is room for it, and what is stored then. d stands for the kind where there are no more
module _ (t : ℕ) (kinds : List GateKind) (d : GateKind) {w w' : Writer} {i : ℕ} (s : Stored w w' (on_wire t (take i kinds))) where
  pub kinds_last : length kinds ≤ i → Stored w w' (on_wire t kinds)
  kinds_last l = rw (← take_all i kinds l) s

  module _ (l : i < length kinds) where
    grown : on_wire t (take (i + 1) kinds) ≡ on_wire t (take i kinds) ++ (gate (kind_byte (get_or kinds i d)) t 0 ∷ [])
    grown = ap (on_wire t) (take_more kinds i d l) ∙ map-append (λ kind. gate (kind_byte kind) t 0) (take i kinds) (get_or kinds i d ∷ [])

    pub kind_room : Room w (on_wire t kinds) → Room w' (gate (kind_byte (get_or kinds i d)) t 0 ∷ [])
    kind_room r = room_then s (gate (kind_byte (get_or kinds i d)) t 0 ∷ []) (rw grown at fits)
      where
        fits : Room w (on_wire t (take (i + 1) kinds))
        fits =
            omega (
              arith,
              length-map (take (i + 1) kinds) (λ kind. gate (kind_byte kind) t 0),
              length-map kinds (λ kind. gate (kind_byte kind) t 0),
              length-take (i + 1) kinds,
            )

    pub kind_turn : {w'' : Writer} → Stored w' w'' (gate (kind_byte (get_or kinds i d)) t 0 ∷ [])
        → Stored w w'' (on_wire t (take (i + 1) kinds))
    kind_turn u = rw grown (stored_then s u)

-- ---- one parity

pub parity-none : (w : Writer) (n p v : ℕ) → v ≡ 0 → Stored w w (write_parity max_wires n p v)
unfolding write_parity
parity-none w n p v e = rw e (stored_none w)

parity-parts : (n p v t q : ℕ) → v ≢ 0 → t ≡ lowest max_wires p → q ≡ others max_wires p
    → write_parity max_wires n p v ≡ cnots n q t ++ (spell v t ++ cnots n q t)
unfolding write_parity around
parity-parts n p zero t q h et eq = absurd (h refl)
parity-parts n p (suc v) t q h et eq = rw (et, eq)

-- CNOTs, the spelling, CNOTs: there is room for each, and together they are the parity. Wire t is the lowest of p, and u its own parity
module _ {w : Writer} {p v t u : ℕ} (ready : ParityReady w p v) (some : v ≢ 0) (et : t ≡ lowest max_wires p) (eu : u ≡ 2 ^ t) where
  abbrev bringing : List Gate
  bringing = cnots w.wires.count (bit_xor p u) t

  parts : write_parity max_wires w.wires.count p v ≡ bringing ++ (spell v t ++ bringing)
  parts = parity-parts w.wires.count p v t (bit_xor p u) some et (ap (bit_xor p) (eu ∙ ap (λ (i : ℕ). 2 ^ i) et))

  whole : Room w (bringing ++ (spell v t ++ bringing))
  whole = subst (λ (gs : List Gate). Room w gs) parts ready.room

  pub parity-room : Room w (cnots w.wires.count (bit_xor p u) t)
  parity-room = room_first w bringing (spell v t ++ bringing) whole

  module _ {w₁ : Writer} (a : Stored w w₁ (cnots w.wires.count (bit_xor p u) t)) where
    rest : Room w₁ (spell v t ++ bringing)
    rest = room_then a (spell v t ++ bringing) whole

    pub spell_room : Room w₁ (spell v t)
    spell_room = room_first w₁ (spell v t) bringing rest

    module _ {w₂ : Writer} (b : Stored w₁ w₂ (spell v t)) where
      same : w₂.wires ≡ w.wires
      same = b.wires ∙ a.wires

      pub undo_room : Room w₂ (cnots w₂.wires.count (bit_xor p u) t)
      undo_room = rw same (room_then b bringing rest)

      pub parity-stored : {w₃ : Writer} → Stored w₂ w₃ (cnots w₂.wires.count (bit_xor p u) t)
          → Stored w w₃ (write_parity max_wires w.wires.count p v)
      parity-stored {w₃} d =
          rw parts
          (stored_then a (stored_then b (subst (λ (on : Wires). Stored w₂ w₃ (cnots on.count (bit_xor p u) t)) same d)))

-- ---- all parities

pub parities_fit : (n : ℕ) → n ≤ max_wires → 2 ^ n ≤ parities
parities_fit n h = pow_mono {i = n} {j = max_wires} h

pub phases_first : (to : Writer) (n : ℕ) (weights : List ℕ) → Stored to to (write_phases max_wires n weights 0)
unfolding write_phases
phases_first to n weights = stored_none to

-- the code goes through the weights of the m parities that there are
module _ {to to' : Writer} {m : ℕ} (p : ℕ) (weights : List ℕ) (of : m ≡ 2 ^ to.wires.count) (ready : PhasesReady to weights)
    (s : Stored to to' (write_phases max_wires to.wires.count weights p)) where
  long : length (take m weights) ≡ 2 ^ to.wires.count
  long =
      rw of (length-take-le (2 ^ to.wires.count) weights (omega (arith, ready.sound.long, parities_fit to.wires.count to.wires.few)))

  pub phases_last : p ≡ length (take m weights) → Stored to to' (write_phases max_wires to.wires.count weights (2 ^ to.wires.count))
  phases_last e = rw (← long, ← e) s

  module _ (l : p < length (take m weights)) where
    below : p < 2 ^ to.wires.count
    below = omega (arith, long)

    here : get_or (take m weights) p 0 ≡ weight weights p
    here = rw of (get_or-take (2 ^ to.wires.count) weights p 0 below)

    next_phases : write_phases max_wires to.wires.count weights (p + 1)
        ≡ write_phases max_wires to.wires.count weights p ++ write_parity max_wires to.wires.count p (get_or (take m weights) p 0)
    unfolding write_phases
    next_phases = rw (add-one p, here)

    pub parity-ready : ParityReady to' p (get_or (take m weights) p 0)
    parity-ready =
        record {
          inside = omega (arith, below, parities_fit to.wires.count to.wires.few);
          small = rw here (ready.sound.small p);
          none = λ e. here ∙ ap (weight weights) e ∙ ready.sound.none;
          room =
              rw s.wires
              (room_then s (write_parity max_wires to.wires.count p (get_or (take m weights) p 0)) (rw next_phases at fits));
        }
      where
        fits : Room to (write_phases max_wires to.wires.count weights (p + 1))
        fits =
            omega (
              arith,
              phases_grow max_wires to.wires.count weights (p + 1) (2 ^ to.wires.count) (omega (arith, below)),
              ready.room,
            )

    pub phases_turn : {to'' : Writer} → Stored to' to'' (write_parity max_wires to'.wires.count p (get_or (take m weights) p 0))
        → Stored to to'' (write_phases max_wires to.wires.count weights (p + 1))
    phases_turn {to''} u =
        let more : Stored to' to'' (write_parity max_wires to.wires.count p (get_or (take m weights) p 0)) =
        subst (λ (on : Wires). Stored to' to'' (write_parity max_wires on.count p (get_or (take m weights) p 0))) s.wires u in
        rw next_phases (stored_then s more)
