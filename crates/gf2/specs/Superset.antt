-- Sums over the numbers that name every wire of m: at one stroke, and one wire after the other.
use Rattle.std.specs.Prelude.{◌*◌, ◌+◌, ◌-◌, ◌^◌, suc, zero, ℕ}
use Rattle.gf2.specs.Bit.{bit}
use Rattle.gf2.specs.Sum.{sum}

-- 1 where r names every wire below k that m names, else 0
unfoldable pub names_all : ℕ → ℕ → ℕ → ℕ
names_all zero m r = 1
names_all (suc k) m r = names_all k m r * (1 - bit m k * (1 - bit r k))

-- what f gives to the numbers below 2 ^ n that name every wire of m, summed
unfoldable pub above : ℕ → (ℕ → ℕ) → ℕ → ℕ
above n f m = sum (2 ^ n) (λ r. f r * names_all n m r)

-- the wires below k done one after the other: to a number without wire i comes what stands at the same number with it
unfoldable pub superset : ℕ → (ℕ → ℕ) → ℕ → ℕ
superset zero f p = f p
superset (suc k) f p = superset k f p + (1 - bit p k) * superset k f (p + 2 ^ k)
