-- Document 01, "Marked and other circuits": the marked cases as a table, and what each of them claims of the definitions.
use Rattle.std.specs.Prelude.{◌++◌, List, [], ◌∷◌, ◌≢◌, ◌≡◌, ◌-◌, ◌<◌, ◌^◌, suc, zero, ℕ, length, replicate, set}
use Rattle.circuit.specs.Faults.{first_fault, same_wire}
use Rattle.circuit.specs.Gate.{CNOT, Gate, T, T_DAGGER, gate, t_gates}
use Rattle.circuit.specs.Limits.{max_members, max_wires}
use Rattle.circuit.specs.OddSet.{member_count, odd_set}
use Rattle.circuit.specs.Read.{no_weights, read}
use Rattle.circuit.specs.Sound.{SoundRows}
use Rattle.gf2.specs.Selection.{combine}
use Rattle.moves.specs.CarryOut.{carry_out}
use Rattle.moves.specs.Move.{Legal}
use Rattle.phase.specs.Coefficients.{c, l, q}
use Rattle.circuit.specs.Replies.{Refused}
use Rattle.trimmed.specs.Trimmed.{Trimmed}
use Rattle.trimmed.specs.declared.Counts.{Counts}
use Rattle.trimmer.specs.Entry.{WritesFor, no_counts}

-- weight w at parity p
pub data Entry : Type 0 where
  at : ℕ → ℕ → Entry

-- what a case says
pub data Case : Type 0 where
  -- reading these gates on n wires gives these weights, 0 elsewhere, these rows 0 to n - 1, that many T gates and an odd set of that size
  reads : (n : ℕ) → List Gate → List Entry → List ℕ → (t : ℕ) → (odd : ℕ) → Case
  -- every trim of these gates on n wires reports these five counts (that there is one: trimmer/proofs/Laws, done_exactly)
  trims : (n : ℕ) → List Gate → Counts → Case
  -- these gates on n wires have that fault first, at that gate
  refuses : (n : ℕ) → List Gate → (number : ℕ) → (place : ℕ) → Case
  -- weights with these entries have that l for every wire, that q for every pair and that c for every three wires below n
  coefficients : (n : ℕ) → List Entry → (every_l : ℕ) → (every_q : ℕ) → (every_c : ℕ) → Case
  -- z and Y are a legal move for the odd set of weights with these entries, and leave marks with those
  leaves : (n : ℕ) → List Entry → (z : ℕ) → (Y : List ℕ) → List Entry → Case
  -- rows 0 to n - 1 are not invertible: the combination s of them is 0
  dependent : (n : ℕ) → (rows : List ℕ) → (s : ℕ) → Case

-- weights with these entries, 0 elsewhere
unfoldable pub weights_with : List Entry → List ℕ
weights_with [] = no_weights max_wires
weights_with (at p w ∷ es) = set (weights_with es) p w

-- and their odd set
abbrev pub odd_set_with : List Entry → List ℕ
odd_set_with es = odd_set (weights_with es)

-- rows that go on with 0
unfoldable pub rows_with : List ℕ → List ℕ
rows_with rows = rows ++ replicate (max_wires - length rows) 0

-- every l, every q and every c
pub record AllCoefficients (n : ℕ) (w : List ℕ) (a b d : ℕ) : Type 0 where
  pub l_is : (i : ℕ) → i < n → l w i ≡ a
  pub q_is : (i j : ℕ) → i < j → j < n → q w i j ≡ b
  pub c_is : (i j k : ℕ) → i < j → j < k → k < n → c w i j k ≡ d

abbrev pub Claim : Case → Type 0
Claim (reads n gs es rows t odd) =
    ((read max_wires n gs).weights ≡ weights_with es) × ((read max_wires n gs).rows ≡ rows_with rows) × (t_gates gs ≡ t)
    × (member_count (odd_set (read max_wires n gs).weights) ≡ odd)
Claim (trims n gs k) = (D : List Gate) (log : List ℕ) (counts : Counts) → Trimmed n gs D log counts → WritesFor n gs D → counts ≡ k
Claim (refuses n gs number place) = first_fault n 0 gs ≡ Refused number place
Claim (coefficients n es a b d) = AllCoefficients n (weights_with es) a b d
Claim (leaves n es z Y left) = Legal max_members n (odd_set_with es) z Y × (carry_out (odd_set_with es) z Y ≡ weights_with left)
Claim (dependent n rows s) =
    (s ≢ 0) × (s < 2 ^ n) × (combine s (rows_with rows) ≡ 0) × (SoundRows max_wires n (rows_with rows) → ⊥)

abbrev pub AllClaimed : List Case → Type 0
AllClaimed [] = Unit {0}
AllClaimed (k ∷ ks) = Claim k × AllClaimed ks

-- a CNOT, a T and a T dagger, each on its wires
abbrev pub cnot : ℕ → ℕ → Gate
cnot a b = gate CNOT a b

abbrev pub t : ℕ → Gate
t a = gate T a 0

abbrev pub t_dagger : ℕ → Gate
t_dagger a = gate T_DAGGER a 0

-- weight 1 on the parities 1 to k
unfoldable pub ones_to : ℕ → List Entry
ones_to zero = []
ones_to (suc k) = at (suc k) 1 ∷ ones_to k

-- weight 1 on all 15 parities of four wires: M7, whose odd set is that of M8
abbrev pub fifteen : List Entry
fifteen = ones_to 15

-- M1 to M10, in order; M1 is what reading gives and what every trim reports
unfoldable pub cases : List Case
cases =
    reads 1 [] [] (1 ∷ []) 0 0
    ∷ trims 1 [] no_counts
    ∷ reads 1 (t 0 ∷ []) (at 1 1 ∷ []) (1 ∷ []) 1 1
    ∷ reads 1 (t 0 ∷ t_dagger 0 ∷ []) [] (1 ∷ []) 2 0
    ∷ reads 2 (cnot 0 1 ∷ t 1 ∷ []) (at 3 1 ∷ []) (1 ∷ 3 ∷ []) 1 1
    ∷ reads 2 (cnot 0 1 ∷ cnot 1 0 ∷ cnot 0 1 ∷ []) [] (2 ∷ 1 ∷ []) 0 0
    ∷ coefficients 3 (at 1 1 ∷ at 2 1 ∷ at 4 1 ∷ at 7 1 ∷ at 3 7 ∷ at 5 7 ∷ at 6 7 ∷ []) 0 0 1
    ∷ coefficients 4 fifteen 0 0 0
    ∷ leaves 4 fifteen 1 (2 ∷ 4 ∷ 6 ∷ 8 ∷ 10 ∷ 12 ∷ 14 ∷ []) []
    ∷ dependent 2 (1 ∷ 1 ∷ []) 3
    ∷ refuses 1 (cnot 0 0 ∷ []) same_wire 0
    ∷ []
