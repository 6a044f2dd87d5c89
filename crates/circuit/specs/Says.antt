-- Document 01, "Weights and rows": what weights and rows say of a basis state.
use Rattle.std.specs.Prelude.{List, ◌%◌, ◌*◌, ◌^◌, ℕ, get_or}
use Rattle.gf2.specs.Parity.{parity}
use Rattle.gf2.specs.Sum.{sum}
use Rattle.gf2.specs.Table.{weighted_sum}
use Rattle.circuit.specs.Read.{Reading}
use Rattle.circuit.specs.Run.{State}

-- the phase: the sum of w[p] times p(x), modulo 8
unfoldable pub phase_at : ℕ → List ℕ → ℕ → ℕ
phase_at n w x = weighted_sum w (λ p. parity n p x) % 8

-- the end state: end bit i is row i of x
unfoldable pub end_state : ℕ → List ℕ → ℕ → ℕ
end_state n rows x = sum n (λ i. parity n (get_or rows i 0) x * 2 ^ i)

-- the end state and phase that a reading gives x
abbrev pub says : ℕ → Reading → ℕ → State
says n r x = record { bits = end_state n r.rows x; phase = phase_at n r.weights x }
