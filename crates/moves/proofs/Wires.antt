-- Wires that no member names: for sound marks of n wires a move is legal on n wires exactly when it is legal on more.
use mathlib.Core.List.{List}
use mathlib.Core.Logic.{◌↔◌}
use mathlib.Core.Path.{◌≡◌, ap, refl}
use Prim.Native.Nat.{◌%◌, ◌*◌, ◌+◌, ◌<◌, ◌^◌, ◌≤◌, ℕ}
use native.Mathlib.Decide.{dec_lt}
use native.Mathlib.Omega.{arith}
use lib.ListN.{get_or}
use lib.Pow.{pow_mono}
use Rattle.circuit.specs.OddSet.{Member}
use Rattle.circuit.specs.Sound.{SoundMarks}
use Rattle.gf2.proofs.Leading.{bit-beyond}
use Rattle.gf2.proofs.Over.{sum_over-none}
use Rattle.gf2.specs.Bit.{bit}
use Rattle.gf2.specs.Over.{Below, sum_over}
use Rattle.moves.proofs.Keep.{member_lt, separated_lt}
use Rattle.moves.specs.Log.{LegalCells}
use Rattle.moves.specs.Move.{Balanced, Legal, Separates, triple}
use Rattle.moves.specs.Sets.{In}

pub sound_wires : (size n N : ℕ) (marks : List ℕ) → n ≤ N → SoundMarks size n marks → SoundMarks size N marks
sound_wires size n N marks h s =
    record { long = s.long; bits = s.bits; none = s.none; high = λ p l. s.high p (omega (arith, pow_mono {i = n} {j = N} h)) }

triple_beyond : (n z i j k y : ℕ) → z < 2 ^ n → y < 2 ^ n → n ≤ k → triple z i j k y ≡ 0
triple_beyond n z i j k y hz hy l =
    rw (bit-beyond n z k hz l, bit-beyond n y k hy l) (none (bit z i * bit y j) (bit z j * bit y i) (bit y i) (bit y j))
  where
    none : (a b c d : ℕ) → (a * 0 + b * 0 + 0 * c * d) % 2 ≡ 0
    none a b c d = let e : a * 0 + b * 0 + 0 * c * d ≡ 0 = omega arith in rw e

pub balanced_wires : (n N z : ℕ) (Y : List ℕ) → n ≤ N → z < 2 ^ n → Below (2 ^ n) Y → Balanced n z Y ↔ Balanced N z Y
balanced_wires n N z Y h hz hy = (
  λ b. record { zero_xor = b.zero_xor; triples = λ i j k l g f. at b i j k l g (dec_lt k n) },
  λ b. record { zero_xor = b.zero_xor; triples = λ i j k l g f. b.triples i j k l g (omega arith) },
)
  where
    at : Balanced n z Y → (i j k : ℕ) → i < j → j < k → Dec (k < n) → sum_over (triple z i j k) Y % 2 ≡ 0
    at b i j k l g (yes f) = b.triples i j k l g f
    at b i j k l g (no f) =
        ap (λ (x : ℕ). x % 2) (sum_over-none (triple z i j k) Y (λ p q. triple_beyond n z i j k (get_or Y p 0) hz (hy p q) (omega arith)))

pub legal_wires : (size n N most : ℕ) (marks : List ℕ) → n ≤ N → SoundMarks size n marks → (z : ℕ) (Y : List ℕ)
    → Legal most n marks z Y ↔ Legal most N marks z Y
legal_wires size n N most marks h sound z Y = (
  λ g. record {
    few = g.few;
    ordered = g.ordered;
    marked = g.marked;
    separates = g.separates;
    balanced = (both g.marked g.separates).0 g.balanced;
  },
  λ g. record {
    few = g.few;
    ordered = g.ordered;
    marked = g.marked;
    separates = g.separates;
    balanced = (both g.marked g.separates).1 g.balanced;
  },
)
  where
    both : ((y : ℕ) → In y Y → Member marks y) → Separates marks z Y → Balanced n z Y ↔ Balanced N z Y
    both marked s =
        balanced_wires n N z Y h (separated_lt size n marks sound z Y marked s)
        (λ i l. member_lt size n marks sound (get_or Y i 0) (marked (get_or Y i 0) (i, l, refl)))

-- and cells are a legal move on n wires exactly when they are one on more
pub cells_wires : (size n N most : ℕ) (marks : List ℕ) → n ≤ N → SoundMarks size n marks → (cells : List ℕ)
    → LegalCells most n marks cells ↔ LegalCells most N marks cells
cells_wires size n N most marks h sound cells = (
  λ g. record { z = g.z; Y = g.Y; is = g.is; legal = (legal_wires size n N most marks h sound g.z g.Y).0 g.legal },
  λ g. record { z = g.z; Y = g.Y; is = g.is; legal = (legal_wires size n N most marks h sound g.z g.Y).1 g.legal },
)
