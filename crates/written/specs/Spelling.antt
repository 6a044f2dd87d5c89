-- Document 01, "The new weights": "Writing spells weight 1 to 7 as T; S; S T; Z; Z T; S dagger; T dagger", and document 02, 2.6: "Written
-- weight 4 becomes S S, and 5 becomes S dagger T dagger". What it means that a list spells its weights so, whatever its CNOTs and its order
-- of parities are; and which lists a rack without a native Z can run.
use Rattle.std.specs.Prelude.{Bool, false, true, ◌++◌, List, [], ◌∷◌, map, ◌≡◌, ◌+◌, ◌≤◌, ℕ, eqb, get_or, length}
use Rattle.gf2.specs.Sum.{delta, sum}
use Rattle.circuit.specs.Gate.{CNOT, Gate, S, S_DAGGER, T, T_DAGGER, gate, kind_of}
use Rattle.circuit.specs.Read.{Reading, read_from, read_gate, row}
use Rattle.circuit.specs.Sound.{weight}
use Rattle.circuit.specs.Gate.{Kind}
use Rattle.circuit.specs.Gate.{Cnot, Phase, Unknown}

-- ---- the spelling

-- the kinds of the gates that spell each weight, in order, from weight 0, which no gate spells, to weight 7
abbrev pub spellings : List (List ℕ)
spellings =
    []
    ∷ (T ∷ [])
    ∷ (S ∷ [])
    ∷ (S ∷ T ∷ [])
    ∷ (S ∷ S ∷ [])
    ∷ (S_DAGGER ∷ T_DAGGER ∷ [])
    ∷ (S_DAGGER ∷ [])
    ∷ (T_DAGGER ∷ [])
    ∷ []

-- the kinds of the gates that spell weight v; none beyond 7
unfoldable pub spelling : ℕ → List ℕ
spelling v = get_or spellings v []

-- the gates that spell weight v, on wire t
unfoldable pub spell : ℕ → ℕ → List Gate
spell v t = map (λ kind. gate kind t 0) (spelling v)

-- how many of these kinds are that kind
unfoldable pub occurs : ℕ → List ℕ → ℕ
occurs kind [] = 0
occurs kind (k ∷ ks) = delta kind k + occurs kind ks

-- how many gates of that kind the spellings of all weights have
unfoldable pub spelled_gates : ℕ → List ℕ → ℕ
spelled_gates kind w = sum (length w) (λ p. occurs kind (spelling (weight w p)))

-- ---- what a list spells

-- how many gates of that kind a list has
unfoldable pub gates_of_kind : ℕ → List Gate → ℕ
gates_of_kind kind [] = 0
gates_of_kind kind (gate k a b ∷ gs) = delta kind k + gates_of_kind kind gs

-- a kind that is a phase gate's, if its wire holds the parity asked for
abbrev pub kind_here : Kind → Bool → ℕ → List ℕ
kind_here (Phase v) true kind = kind ∷ []
kind_here (Phase v) false kind = []
kind_here Cnot holds kind = []
kind_here Unknown holds kind = []

-- the kinds of the gates of a list that add their phase at parity p, in order; r is the reading before the list
unfoldable pub kinds_at : ℕ → List Gate → Reading → List ℕ
kinds_at p [] r = []
kinds_at p (gate kind a b ∷ gs) r = kind_here (kind_of kind) (eqb (row r a) p) kind ++ kinds_at p gs (read_gate (gate kind a b) r)

-- somewhere in a list the gates that spell v stand next to each other, on one wire, which holds p there; r is the reading before the list
pub record Together (p v : ℕ) (gs : List Gate) (r : Reading) : Type 0 where
  pub wire : ℕ
  pub before : List Gate
  pub after : List Gate
  pub is : gs ≡ before ++ (spell v wire ++ after)
  pub holds : row (read_from before r) wire ≡ p

-- ---- the rack

-- the kinds in its pulse table, which has no Z of its own
abbrev pub pulses : List ℕ
pulses = CNOT ∷ T ∷ S ∷ S_DAGGER ∷ T_DAGGER ∷ []

-- it can run a list: the kind of each gate is in its table
abbrev pub RackRuns : List Gate → Type 0
RackRuns [] = Unit {0}
RackRuns (gate kind a b ∷ gs) = (1 ≤ occurs kind pulses) × RackRuns gs
