-- Document 01: "p(x) is the XOR of the bits of x that p names"; and the lowest wire of p.
use Rattle.std.specs.Prelude.{◌%◌, ◌*◌, ℕ}
use Rattle.std.specs.Int.Count.{count_trailing_zeros}
use Rattle.gf2.specs.Bit.{bit}
use Rattle.gf2.specs.Sum.{sum}

-- p(x) on n wires: the bits of x that p names, summed modulo 2
unfoldable pub parity : ℕ → ℕ → ℕ → ℕ
parity n p x = sum n (λ i. bit p i * bit x i) % 2

-- the lowest wire that p names, of n wires
abbrev pub lowest : ℕ → ℕ → ℕ
lowest n p = count_trailing_zeros n p
