-- Document 01, "Signature": the entries of the product table, for n wires.
use Rattle.std.specs.Prelude.{◌*◌, ◌+◌, ◌/◌, ◌^◌, suc, ℕ}
use Rattle.gf2.specs.Bit.{bit}
use Rattle.gf2.specs.Sum.{sum}

-- j(j+1)/2
unfoldable pub tri : ℕ → ℕ
tri j = j * (j + 1) / 2

-- for i ≤ j, bit j(j+1)/2 + i of entry p is set when p names both i and j
unfoldable pub product : ℕ → ℕ → ℕ
product n p = sum n (λ j. sum (suc j) (λ i. bit p i * bit p j * 2 ^ (tri j + i)))
