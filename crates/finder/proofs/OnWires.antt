-- The scan is on all wires. For sound marks of n wires, what it says holds on n, whose parities are all of its z.
use mathlib.Core.List.{List}
use Rattle.std.specs.Prelude.{None, Option, Some}
use Prim.Native.Nat.{◌^◌, ◌≤◌, ℕ}
use native.Mathlib.Omega.{arith}
use Rattle.circuit.specs.Limits.{max_members, max_wires, parities}
use Rattle.circuit.specs.Sound.{SoundMarks}
use Rattle.moves.proofs.Keep.{z_lt}
use Rattle.moves.proofs.Laws.{limits_suffice}
use Rattle.moves.proofs.Wires.{cells_wires, legal_wires}
use Rattle.finder.specs.Search.{Scanned, Searched}

pub scanned_searched : {n : ℕ} {marks : List ℕ} → n ≤ max_wires → SoundMarks parities n marks → (r : Option (List ℕ))
    → Scanned (2 ^ n) marks r → Searched n marks r
scanned_searched {n} {marks} fit sound (Some cells) s =
    record {
      legal = (cells_wires parities n max_wires max_members marks fit sound cells).1 s.legal;
      smallest = λ z Y l. s.smallest z Y ((legal_wires parities n max_wires max_members marks fit sound z Y).0 l);
    }
scanned_searched {n} {marks} fit sound None s = λ z Y l. omega (
  arith,
  s z Y ((legal_wires parities n max_wires max_members marks fit sound z Y).0 l),
  z_lt parities n max_members (limits_suffice n fit).0 marks sound z Y l,
)
