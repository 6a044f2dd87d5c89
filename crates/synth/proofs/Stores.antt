-- Gates stored one after the other.
use mathlib.Core.List.{◌++◌, List, [], ◌∷◌}
use mathlib.Core.Path.{ap, refl, sym, ◌∙◌, ◌≡◌}
use Prim.Native.Nat.{◌*◌, ◌+◌, ℕ}
use native.Mathlib.Nat.{add-zero}
use native.Mathlib.Omega.{arith}
use lib.ListN.{drop, length, length-append, set, take}
use lib.Seq.{drop_at, length-sets, sets, take_at}
use Rattle.circuit.proofs.Placing.{sets_append, sets_placed, three_stored}
use Rattle.circuit.specs.Gate.{Gate, bytes_of, gate}
use Rattle.circuit.specs.Lent.{KeptFrom}
use Rattle.circuit.specs.Limits.{gate_bytes}
use Rattle.circuit.proofs.Bytes.{bytes_append, length-bytes}
use Rattle.synth.specs.Storing.{Room, Stored}
use Rattle.synth.specs.declared.storing.Writer.{Writer}

pub stored_none : (w : Writer) → Stored w w []
unfolding bytes_of
stored_none w = record { wires = refl; same = refl; counted = sym (add-zero w.count); bytes = refl }

-- three bytes stored one after the other
pub stored_one : (w w' : Writer) (kind a b : ℕ) {byte : ℕ} → byte ≡ kind → w'.wires ≡ w.wires → w'.gates.ghost_name ≡ w.gates.ghost_name
    → w'.count ≡ w.count + 1
    → w'.gates.now ≡ set (set (set w.gates.now (gate_bytes * w.count) byte) (gate_bytes * w.count + 1) a) (gate_bytes * w.count + 2) b
    → Stored w w' (gate kind a b ∷ [])
unfolding bytes_of
stored_one w w' kind a b {byte} e wires same counted put =
    record {
      wires = wires;
      same = same;
      counted = counted;
      bytes = put ∙ three_stored w.gates.now (gate_bytes * w.count) byte a b kind a b e refl refl;
    }

module _ {w w' : Writer} {xs : List Gate} (a : Stored w w' xs) where
  pub stored_same : length w'.gates.now ≡ length w.gates.now
  stored_same = ap length a.bytes ∙ length-sets w.gates.now (gate_bytes * w.count) (bytes_of xs)

  pub stored_then : {w'' : Writer} {ys : List Gate} → Stored w' w'' ys → Stored w w'' (xs ++ ys)
  stored_then {w''} {ys} b =
      record {
        wires = b.wires ∙ a.wires;
        same = b.same ∙ a.same;
        counted = omega (arith, a.counted, b.counted, length-append xs ys);
        bytes =
            b.bytes ∙ ap (λ (h : List ℕ). sets h (gate_bytes * w'.count) (bytes_of ys)) a.bytes
            ∙ sets_append w.gates.now (bytes_of xs) (bytes_of ys) (gate_bytes * w.count) (gate_bytes * w'.count)
            (omega (arith, length-bytes xs, a.counted))
            ∙ ap (sets w.gates.now (gate_bytes * w.count)) (sym (bytes_append xs ys));
      }

  -- room for all is room for the rest
  pub room_then : (ys : List Gate) → Room w (xs ++ ys) → Room w' ys
  room_then ys r = omega (arith, a.counted, length-append xs ys, stored_same)

-- and for the first part
pub room_first : (w : Writer) (xs ys : List Gate) → Room w (xs ++ ys) → Room w xs
room_first w xs ys r = omega (arith, length-append xs ys)

-- ---- what the stores leave, from the first byte on

module _ {w w' : Writer} {gs : List Gate} (a : Stored w w' gs) (first : w.count ≡ 0) (r : Room w gs) where
  end : length (bytes_of gs) ≡ gate_bytes * w'.count
  end = omega (arith, a.counted, length-bytes gs)

  split : w'.gates.now ≡ bytes_of gs ++ drop (gate_bytes * w'.count) w.gates.now
  split =
      a.bytes
      ∙ (let z : gate_bytes * w.count ≡ 0 = omega arith in ap (λ (j : ℕ). sets w.gates.now j (bytes_of gs)) z)
      ∙ sets_placed w.gates.now 0 (bytes_of gs) (omega (arith, length-bytes gs))
      ∙ let e : 0 + length (bytes_of gs) ≡ gate_bytes * w'.count = omega (arith, end) in
      ap (λ (j : ℕ). bytes_of gs ++ drop j w.gates.now) e

  pub stored_front : take (gate_bytes * w'.count) w'.gates.now ≡ bytes_of gs
  stored_front =
      ap (take (gate_bytes * w'.count)) split
      ∙ take_at (bytes_of gs) (drop (gate_bytes * w'.count) w.gates.now) (gate_bytes * w'.count) end

  pub stored_kept : KeptFrom (gate_bytes * w'.count) w.gates.now w'.gates.now
  stored_kept =
      record {
        long = stored_same a;
        kept =
            ap (drop (gate_bytes * w'.count)) split
            ∙ drop_at (bytes_of gs) (drop (gate_bytes * w'.count) w.gates.now) (gate_bytes * w'.count) end;
      }
