-- Gates and their bytes: a list cut into threes; one way and back, joined, and how many.
use mathlib.Core.List.{List, [], ◌++◌, ◌∷◌, map}
use mathlib.Core.Path.{ap, refl, ◌≡◌}
use Prim.Native.Nat.{◌%◌, ◌*◌, ◌/◌, suc, zero, ℕ, ◌≤◌}
use native.Mathlib.Omega.{arith}
use lib.ListN.{length}
use Rattle.std.specs.Simd.{first_chunks}
use Rattle.circuit.specs.Gate.{Gate, bytes_of, gate, gate_of, gates_of}
use Rattle.circuit.specs.Limits.{gate_bytes}

-- a slice cut into threes
pub gates_chunked : (bytes : List ℕ) (k : ℕ) → k ≡ length bytes / gate_bytes
    → map gate_of (first_chunks gate_bytes k bytes) ≡ gates_of bytes
unfolding gates_of
gates_chunked [] zero e = refl
gates_chunked (kind ∷ []) zero e = refl
gates_chunked (kind ∷ a ∷ []) zero e = refl
gates_chunked (kind ∷ a ∷ b ∷ bytes) zero e = absurd (omega arith)
gates_chunked [] (suc k) e = absurd (omega arith)
gates_chunked (kind ∷ []) (suc k) e = absurd (omega arith)
gates_chunked (kind ∷ a ∷ []) (suc k) e = absurd (omega arith)
gates_chunked (kind ∷ a ∷ b ∷ bytes) (suc k) e = ap (λ (l : List Gate). gate kind a b ∷ l) (gates_chunked bytes k (omega arith))

-- a gate takes three bytes
pub gates_in : (bytes : List ℕ) → gate_bytes * length (gates_of bytes) ≤ length bytes
unfolding gates_of
gates_in [] = omega arith
gates_in (k ∷ []) = omega arith
gates_in (k ∷ a ∷ []) = omega arith
gates_in (k ∷ a ∷ b ∷ bytes) = omega (arith, gates_in bytes)

-- ---- from gates to bytes and back

pub gates_of_bytes : (gs : List Gate) → gates_of (bytes_of gs) ≡ gs
unfolding gates_of bytes_of
gates_of_bytes [] = refl
gates_of_bytes (gate k a b ∷ gs) = ap (λ (l : List Gate). gate k a b ∷ l) (gates_of_bytes gs)

pub length-bytes : (gs : List Gate) → length (bytes_of gs) ≡ gate_bytes * length gs
unfolding bytes_of
length-bytes [] = refl
length-bytes (gate k a b ∷ gs) = omega (arith, length-bytes gs)

pub bytes_append : (xs ys : List Gate) → bytes_of (xs ++ ys) ≡ bytes_of xs ++ bytes_of ys
unfolding bytes_of
bytes_append [] ys = refl
bytes_append (gate k a b ∷ xs) ys = ap (λ (l : List ℕ). k ∷ a ∷ b ∷ l) (bytes_append xs ys)

-- a list of whole gates
pub length-gates : (bytes : List ℕ) → length bytes % gate_bytes ≡ 0 → gate_bytes * length (gates_of bytes) ≡ length bytes
unfolding gates_of
length-gates [] w = refl
length-gates (kind ∷ []) w = absurd (omega arith)
length-gates (kind ∷ a ∷ []) w = absurd (omega arith)
length-gates (kind ∷ a ∷ b ∷ bytes) w = omega (arith, length-gates bytes (omega arith))

pub bytes_of_gates : (bytes : List ℕ) → length bytes % gate_bytes ≡ 0 → bytes_of (gates_of bytes) ≡ bytes
unfolding gates_of bytes_of
bytes_of_gates [] w = refl
bytes_of_gates (kind ∷ []) w = absurd (omega arith)
bytes_of_gates (kind ∷ a ∷ []) w = absurd (omega arith)
bytes_of_gates (kind ∷ a ∷ b ∷ bytes) w = ap (λ (l : List ℕ). kind ∷ a ∷ b ∷ l) (bytes_of_gates bytes (omega arith))
