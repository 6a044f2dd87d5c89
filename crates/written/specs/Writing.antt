-- The list that this library writes. Document 01 leaves its CNOTs and the order of parities free, so no promise of an entry opens this
-- list: what entries cite is shut (Chosen). The functions of synth behind the entry name it.
use Rattle.std.specs.Prelude.{◌++◌, List, [], ◌∷◌, map, ◌*◌, ◌-◌, ◌^◌, suc, zero, ℕ, get_or}
use Rattle.std.specs.Int.Bits.{bit_xor}
use Rattle.gf2.specs.Bit.{bit}
use Rattle.gf2.specs.Parity.{lowest}
use Rattle.circuit.specs.Gate.{CNOT, Gate, gate}
use Rattle.circuit.specs.Sound.{weight}
use Rattle.written.specs.Spelling.{spell}

-- ---- the weights

-- a CNOT from wire i into wire t, if the bit is set
unfoldable pub cnot_if : ℕ → ℕ → ℕ → List Gate
cnot_if zero i t = []
cnot_if (suc c) i t = gate CNOT i t ∷ []

-- a CNOT into wire t from each wire below k that q names, the lowest first
unfoldable pub cnots : ℕ → ℕ → ℕ → List Gate
cnots zero q t = []
cnots (suc k) q t = cnots k q t ++ cnot_if (bit q k) k t

-- weight v spelled on wire t, while t holds its own parity and those of q
unfoldable pub around : ℕ → ℕ → ℕ → ℕ → List Gate
around n q t v = cnots n q t ++ (spell v t ++ cnots n q t)

-- the wires of a parity of N bits but the lowest
abbrev pub others : ℕ → ℕ → ℕ
others N p = bit_xor p (2 ^ lowest N p)

-- weight v at parity p, on the lowest wire of p; nothing for weight 0
unfoldable pub write_parity : ℕ → ℕ → ℕ → ℕ → List Gate
write_parity N n p zero = []
write_parity N n p (suc v) = around n (others N p) (lowest N p) (suc v)

-- the parities below k in turn
unfoldable pub write_phases : ℕ → ℕ → List ℕ → ℕ → List Gate
write_phases N n w zero = []
write_phases N n w (suc k) = write_phases N n w k ++ write_parity N n k (weight w k)

-- ---- the rows: mask i names the wires whose parities make row i; the gates bring mask i to 2 ^ i, in turn

-- the masks after CNOTs into wire t from the wires of q
unfoldable pub recount : ℕ → ℕ → List ℕ → List ℕ
recount t q masks = map (λ m. bit_xor m (bit m t * q)) masks

unfoldable pub choose : ℕ → ℕ → ℕ → ℕ
choose zero x y = y
choose (suc c) x y = x

-- the lowest wire from r on, of k wires, that m names; r + k if there is none
unfoldable pub pivot_from : ℕ → ℕ → ℕ → ℕ
pivot_from zero r m = r
pivot_from (suc k) r m = choose (bit m r) r (pivot_from k (suc r) m)

abbrev pub pivot : ℕ → ℕ → ℕ → ℕ
pivot n r m = pivot_from (n - r) r m

-- what mask m lacks of wire r: 2 ^ r, or 0 where m names it
abbrev pub lack : ℕ → ℕ → ℕ
lack r m = (1 - bit m r) * 2 ^ r

-- first mask r gets wire r, by a CNOT from r into the pivot wire b
abbrev pub filled : ℕ → ℕ → List ℕ → List ℕ
filled r b masks = recount b (lack r (get_or masks r 0)) masks

-- then it loses the others, by a CNOT from each into r
abbrev pub surplus : ℕ → ℕ → List ℕ → ℕ
surplus r b masks = bit_xor (get_or (filled r b masks) r 0) (2 ^ r)

abbrev pub next_masks : ℕ → ℕ → List ℕ → List ℕ
next_masks r b masks = recount r (surplus r b masks) (filled r b masks)

abbrev pub row_gates : ℕ → ℕ → ℕ → List ℕ → List Gate
row_gates n r b masks = cnots n (lack r (get_or masks r 0)) b ++ cnots n (surplus r b masks) r

-- rows r, r + 1, .., k of them, from these masks
unfoldable pub rows_from : ℕ → ℕ → ℕ → List ℕ → List Gate
rows_from n zero r masks = []
rows_from n (suc k) r masks =
    row_gates n r (pivot n r (get_or masks r 0)) masks ++ rows_from n k (suc r) (next_masks r (pivot n r (get_or masks r 0)) masks)

-- the masks start as the rows
abbrev pub write_rows : ℕ → List ℕ → List Gate
write_rows n rows = rows_from n n 0 rows

-- the whole list: the weights, then the rows
abbrev pub write_list : ℕ → ℕ → List ℕ → List ℕ → List Gate
write_list N n w rows = write_phases N n w (2 ^ n) ++ write_rows n rows
