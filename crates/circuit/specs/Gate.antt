-- Document 01, "Gates and what they do": a gate is three bytes, kind, a and b. A list of gates is read from bytes by `gates_of`.
use Rattle.std.specs.Prelude.{cond, List, [], ◌∷◌, ◌+◌, ℕ, eqb, get_or}
use Rattle.gf2.specs.Sum.{delta}

-- kind, a, b
pub data Gate : Type 0 where
  gate : ℕ → ℕ → ℕ → Gate

-- ---- the kinds, each once by name

-- control a, target b
abbrev pub CNOT : ℕ
CNOT = 1

-- phase gates on wire a, with b zero
abbrev pub T : ℕ
T = 2

abbrev pub S : ℕ
S = 3

abbrev pub Z : ℕ
Z = 4

abbrev pub S_DAGGER : ℕ
S_DAGGER = 5

abbrev pub T_DAGGER : ℕ
T_DAGGER = 6

-- the kinds are 1 to this
abbrev pub last_kind : ℕ
last_kind = T_DAGGER

-- what a kind byte says: a CNOT; a phase gate, with what it adds in eighths of a turn; or no gate
pub data Kind : Type 0 where
  Cnot : Kind
  Phase : ℕ → Kind
  Unknown : Kind

-- what a kind says: a CNOT, or a phase gate with the eighths of a turn that it adds; there are no other kinds
unfoldable pub kind_of : ℕ → Kind
kind_of kind =
    cond (eqb kind CNOT) Cnot
    (cond (eqb kind T) (Phase 1)
    (cond (eqb kind S) (Phase 2)
    (cond (eqb kind Z) (Phase 4)
    (cond (eqb kind S_DAGGER) (Phase 6)
    (cond (eqb kind T_DAGGER) (Phase 7)
    Unknown)))))

-- 1 for T and T dagger, else 0
unfoldable pub is_t : ℕ → ℕ
is_t kind = delta T kind + delta T_DAGGER kind

-- ---- lists of gates

-- how many T and T dagger gates a list holds
unfoldable pub t_gates : List Gate → ℕ
t_gates [] = 0
t_gates (gate kind a b ∷ gs) = is_t kind + t_gates gs

-- the gates of a list of bytes, three bytes each; bytes that do not fill a gate are no gate
unfoldable pub gates_of : List ℕ → List Gate
gates_of [] = []
gates_of (kind ∷ []) = []
gates_of (kind ∷ a ∷ []) = []
gates_of (kind ∷ a ∷ b ∷ bytes) = gate kind a b ∷ gates_of bytes

-- three bytes are a gate
abbrev pub gate_of : List ℕ → Gate
gate_of bytes = gate (get_or bytes 0 0) (get_or bytes 1 0) (get_or bytes 2 0)

-- the bytes of a list of gates
unfoldable pub bytes_of : List Gate → List ℕ
bytes_of [] = []
bytes_of (gate kind a b ∷ gs) = kind ∷ a ∷ b ∷ bytes_of gs
