-- The largest byte, by holding each against those before it; and what two of them say of a table.
use mathlib.Core.List.{List, [], ◌∷◌}
use mathlib.Core.Logic.{◌≢◌}
use mathlib.Core.Path.{◌≡◌, ◌∙◌, ap, refl, sym}
use Prim.Native.Nat.{◌+◌, ◌-◌, ◌<◌, ◌^◌, ◌≤◌, max, min, suc, zero, ℕ}
use native.Mathlib.Decide.{dec_le, dec_lt}
use native.Mathlib.Omega.{arith}
use lib.ListN.{drop, get_or-eq_default, get_or, length, length-drop, take}
use lib.Pow.{pow_mono}
use lib.Seq.{get_or-drop, take-length}
use Rattle.circuit.proofs.TableRule.{at_most, high_none, most_at_none, ruled, table_unruled, table_well}
use Rattle.circuit.specs.Faults.{table_rule}
use Rattle.circuit.specs.TableFaults.{table_fault}
use Rattle.judges.specs.Largest.{AllAtMost, Largest}
use Rattle.std.specs.List.{fold}

-- ---- each byte held against the largest of those before it

-- what comes of them: not below the first of all, nor below a byte; and not above what is above these
max_next : {x m : ℕ} (bytes : List ℕ) → x ≤ m → AllAtMost 0 (length bytes) bytes m → AllAtMost 0 (suc (length bytes)) (x ∷ bytes) m
max_next bytes first rest zero l h = first
max_next bytes first rest (suc p) l h = rest p (omega arith) (omega arith)

max_bounds : (a : ℕ) (bytes : List ℕ) → (a ≤ fold (λ most byte. max byte most) a bytes)
    × AllAtMost 0 (length bytes) bytes (fold (λ most byte. max byte most) a bytes)
max_bounds a [] = (omega arith, λ p l h. absurd (omega arith))
max_bounds a (x ∷ bytes) = let rest = max_bounds (max x a) bytes in (omega (arith, rest.0), max_next bytes (omega (arith, rest.0)) rest.1)

max_least : (a m : ℕ) (bytes : List ℕ) → a ≤ m → AllAtMost 0 (length bytes) bytes m → fold (λ most byte. max byte most) a bytes ≤ m
max_least a m [] l h = l
max_least a m (x ∷ bytes) l h =
    max_least (max x a) m bytes (omega (arith, h 0 (omega arith) (omega arith))) (λ p g k. h (suc p) (omega arith) (omega arith))

pub largest_by_max : (bytes : List ℕ) → Largest 0 (length bytes) bytes (fold (λ most byte. max byte most) 0 bytes)
largest_by_max bytes = record { none_above = (max_bounds 0 bytes).1; least = λ m h. max_least 0 m bytes (omega arith) h }

pub largest_all : {from to p r : ℕ} {table : List ℕ} → Largest from p table r → p ≡ to → Largest from to table r
largest_all l e = rw (← e) l

-- of what stands from one place on
pub largest_from : {from r : ℕ} {table : List ℕ} → from ≤ length table
    → Largest 0 (length (take (length table - from) (drop from table))) (take (length table - from) (drop from table)) r
    → Largest from (length table) table r
largest_from {from} {r} {table} inside l =
    record {
      none_above = λ p a b. rw (← same p a) (m.none_above (p - from) (omega arith) (rw (length-drop from table) (omega arith)));
      least =
          λ k h. m.least k
          (λ p a b. rw (get_or-drop from table p 0)
          (h (from + p) (omega arith) (omega (arith, rw (length-drop from table) at b))));
    }
  where
    whole : take (length table - from) (drop from table) ≡ drop from table
    whole = rw (← length-drop from table) (take-length (drop from table))

    m : Largest 0 (length (drop from table)) (drop from table) r
    m = rw whole at l

    same : (p : ℕ) → from ≤ p → get_or (drop from table) (p - from) 0 ≡ get_or table p 0
    same p a = let e : from + (p - from) ≡ p = omega arith in get_or-drop from table (p - from) 0 ∙ ap (λ (i : ℕ). get_or table i 0) e

-- as many parities as a table has, or 2^n
pub pow_min : (m n k : ℕ) → m ≡ min n k → 2 ^ m ≡ min (2 ^ n) (2 ^ k)
pow_min m n k e = go (dec_le n k)
  where
    go : Dec (n ≤ k) → 2 ^ m ≡ min (2 ^ n) (2 ^ k)
    go (yes l) = let f : m ≡ n = omega arith in rw f (omega (arith, pow_mono {i = n} {j = k} l))
    go (no l) = let f : m ≡ k = omega arith in rw f (omega (arith, pow_mono {i = k} {j = n} (omega arith)))

-- ---- the fault of a table of that size

module _ (size n most : ℕ) (t : List ℕ) where
  pub first_not_zero : get_or t 0 0 ≢ 0 → table_rule ≡ table_fault size n most t
  first_not_zero ne = table_unruled size n most t (λ l r. ne (omega (arith, r 0, most_at_none n most 0 refl)))

  pub too_large : {from to r : ℕ} → Largest from to t r → most < r → table_rule ≡ table_fault size n most t
  too_large all h =
      table_unruled size n most t (λ l rule. absurd (omega (arith, all.least most (λ p a b. omega (arith, rule p, at_most n most p)))))

  module _ {from r : ℕ} (from_is : from ≡ min (2 ^ n) size) (beyond : Largest from size t r) where
    pub beyond_wires : r ≢ 0 → table_rule ≡ table_fault size n most t
    beyond_wires ne =
        table_unruled size n most t
        (λ l rule. absurd (ne (omega (arith, beyond.least 0 (λ p a b. omega (arith, rule p, high_none n most p (omega arith)))))))

    pub no_fault : {r' : ℕ} → length t ≡ size → get_or t 0 0 ≡ 0 → Largest 0 size t r' → r' ≤ most → r ≡ 0 → 0 ≡ table_fault size n most t
    no_fault long none all h z =
        sym (table_well size n most t long (ruled n most t (λ p. small p (dec_lt p size)) none (λ p l. high p l (dec_lt p size))))
      where
        outside : (p : ℕ) → size ≤ p → get_or t p 0 ≡ 0
        outside p l = get_or-eq_default t 0 (omega arith)

        small : (p : ℕ) → Dec (p < size) → get_or t p 0 ≤ most
        small p (yes l) = omega (arith, all.none_above p (omega arith) l)
        small p (no l) = omega (arith, outside p (omega arith))

        high : (p : ℕ) → 2 ^ n ≤ p → Dec (p < size) → get_or t p 0 ≡ 0
        high p h (yes l) = omega (arith, beyond.none_above p (omega arith) l)
        high p h (no l) = outside p (omega arith)
