-- How the code decides: when the superset sums of the one table of weights less the other tell nothing.
use Rattle.std.specs.Prelude.{List, ◌≡◌, ◌%◌, ◌<◌, suc, zero, ℕ, length}
use Rattle.std.specs.Int.Count.{ones}
use Rattle.circuit.specs.Sound.{weight}

-- by the number of wires: l is taken modulo 8, q modulo 4 and c modulo 2; there is no coefficient of no wire, nor of more than three
abbrev pub modulus : ℕ → ℕ
modulus zero = 1
modulus (suc zero) = 8
modulus (suc (suc zero)) = 4
modulus (suc (suc (suc zero))) = 2
modulus (suc (suc (suc (suc k)))) = 1

-- no sum of s tells the weights apart
abbrev pub NoneTells : List ℕ → Type 0
NoneTells s = (p : ℕ) → p < length s → weight s p % modulus (ones p) ≡ 0
