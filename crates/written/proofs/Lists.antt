-- Lists of gates joined: well formed where both are, the kinds at a parity one after the other, and what stands together still does.
use mathlib.Core.List.{◌++◌, List, [], append_assoc, ◌∷◌}
use mathlib.Core.Path.{ap, refl, sym, ◌∙◌, ◌≡◌}
use Prim.Native.Nat.{ℕ}
use lib.Dec.{eqb}
use Rattle.circuit.proofs.Sound.{read_append}
use Rattle.circuit.specs.Faults.{AllWellFormed}
use Rattle.circuit.specs.Gate.{Gate, gate, kind_of}
use Rattle.circuit.specs.Read.{Reading, read_from, read_gate, row}
use Rattle.written.specs.Spelling.{Together, kind_here, kinds_at, spell}

pub formed_append : (n : ℕ) (xs ys : List Gate) → AllWellFormed n xs → AllWellFormed n ys → AllWellFormed n (xs ++ ys)
formed_append n [] ys f g = g
formed_append n (x ∷ xs) ys f g = (f.0, formed_append n xs ys f.1 g)

-- the kinds at p of joined lists
pub kinds_append : (p : ℕ) (xs ys : List Gate) (r : Reading) → kinds_at p (xs ++ ys) r ≡ kinds_at p xs r ++ kinds_at p ys (read_from xs r)
unfolding kinds_at read_from
kinds_append p [] ys r = refl
kinds_append p (gate kind a b ∷ xs) ys r =
    let here : List ℕ = kind_here (kind_of kind) (eqb (row r a) p) kind in
    let r' : Reading = read_gate (gate kind a b) r in
    ap (λ (ks : List ℕ). here ++ ks) (kinds_append p xs ys r')
    ∙ sym (append_assoc here (kinds_at p xs r') (kinds_at p ys (read_from xs r')))

-- what stands together in a list does so in a longer one
pub together_first : {p v : ℕ} {xs : List Gate} {r : Reading} → Together p v xs r → (ys : List Gate) → Together p v (xs ++ ys) r
together_first {p} {v} {xs} {r} t ys =
    record {
      wire = t.wire;
      before = t.before;
      after = t.after ++ ys;
      is =
          ap (λ (gs : List Gate). gs ++ ys) t.is ∙ append_assoc t.before (spell v t.wire ++ t.after) ys
          ∙ ap (λ (gs : List Gate). t.before ++ gs) (append_assoc (spell v t.wire) t.after ys);
      holds = t.holds;
    }

pub together_then : {p v : ℕ} {ys : List Gate} (xs : List Gate) (r : Reading) → Together p v ys (read_from xs r) → Together p v (xs ++ ys) r
together_then {p} {v} {ys} xs r t =
    record {
      wire = t.wire;
      before = xs ++ t.before;
      after = t.after;
      is = ap (λ (gs : List Gate). xs ++ gs) t.is ∙ sym (append_assoc xs t.before (spell v t.wire ++ t.after));
      holds = ap (λ (s : Reading). row s t.wire) (read_append xs t.before r) ∙ t.holds;
    }
