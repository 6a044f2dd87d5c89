-- CNOTs into one wire from the wires of a mask: what reading them does, how many they are, that they are well formed, and that no phase is
-- added.
use mathlib.Core.List.{List, []}
use mathlib.Core.Logic.{◌≢◌}
use mathlib.Core.Path.{◌≡◌, ap, ap₂, refl, sym, ◌∙◌}
use Prim.Native.Nat.{◌%◌, ◌*◌, ◌+◌, ◌<◌, ◌^◌, suc, zero, ℕ, ◌≤◌}
use native.Mathlib.Nat.{mod-eq_of_lt, one-mul, zero-mul}
use native.Mathlib.Omega.{arith}
use lib.Bits.{bit_xor, xor_zero_r}
use lib.ListN.{get_or, length, length-append, set}
use lib.Seq.{get_or-set_other, get_or-set_same, set-get_or, set-set}
use Rattle.circuit.proofs.Sound.{read_append}
use Rattle.circuit.specs.Faults.{AllWellFormed}
use Rattle.circuit.specs.Gate.{kind_of}
use Rattle.circuit.specs.Read.{Reading, join_rows, read_from, read_kind, row, with_rows}
use Rattle.gf2.proofs.Bit.{bit-lt}
use Rattle.gf2.proofs.BitCounts.{bits_at_most, flip_other, flip_same}
use Rattle.gf2.proofs.XorInto.{xor_into}
use Rattle.gf2.proofs.Selection.{combine-first, combine-next}
use Rattle.gf2.proofs.Sum.{sum-update}
use Rattle.gf2.proofs.Xor.{xor_assoc}
use Rattle.gf2.specs.Bit.{bit}
use Rattle.gf2.specs.Selection.{combine}
use Rattle.gf2.specs.Sum.{sum}
use Rattle.written.proofs.Lists.{formed_append, kinds_append}
use Rattle.written.specs.Spelling.{kinds_at}
use Rattle.written.specs.Writing.{cnot_if, cnots}

-- ---- reading

-- one more wire, k, goes into t
into_one : (t k m : ℕ) (rows : List ℕ) → t < length rows → k ≢ t
    → join_rows k t (xor_into t m rows) ≡ set rows t (bit_xor (get_or rows t 0) (bit_xor (combine m rows) (get_or rows k 0)))
into_one t k m rows h ne =
    let v : ℕ = bit_xor (get_or rows t 0) (combine m rows) in
    set-set rows t v (bit_xor (get_or (set rows t v) t 0) (get_or (set rows t v) k 0))
    ∙ ap (set rows t)
    (ap₂ bit_xor (get_or-set_same rows t v 0 h) (get_or-set_other rows t k v 0 ne)
    ∙ xor_assoc (get_or rows t 0) (combine m rows) (get_or rows k 0))

-- a wire of q is not t
apart : (q t k : ℕ) → bit q t ≡ 0 → bit q k ≡ 1 → k ≢ t
apart q t k off on e = let z : ◌≡◌ {A = ℕ} 1 0 = sym on ∙ ap (bit q) e ∙ off in omega arith

-- reading goes from r, in which wire t has a row
module _ (t : ℕ) (r : Reading) (low : t < length r.rows) where
  -- x goes into wire t
  into : ℕ → Reading
  into x = with_rows (set r.rows t (bit_xor (row r t) x)) r

  one_reads : (c k m : ℕ) → c < 2 → (c ≡ 1 → k ≢ t)
      → read_from (cnot_if c k t) (into (combine m r.rows)) ≡ into (bit_xor (combine m r.rows) (c * row r k))
  unfolding into cnot_if read_from read_kind kind_of
  one_reads zero k m l ne = ap into (sym (ap (bit_xor (combine m r.rows)) (zero-mul (row r k)) ∙ xor_zero_r (combine m r.rows)))
  one_reads (suc zero) k m l ne =
      ap (λ (rows : List ℕ). with_rows rows r) (into_one t k m r.rows low (ne refl))
      ∙ ap (λ (y : ℕ). into (bit_xor (combine m r.rows) y)) (sym (one-mul (row r k)))
  one_reads (suc (suc c)) k m l ne = absurd (omega arith)

  cnots_below : (k q : ℕ) → bit q t ≡ 0 → read_from (cnots k q t) r ≡ into (combine (q % 2 ^ k) r.rows)
  unfolding into cnots read_from
  cnots_below zero q off =
      ap (λ (rows : List ℕ). with_rows rows r) (sym (ap (set r.rows t) (xor_zero_r (row r t)) ∙ set-get_or r.rows t 0))
      ∙ ap into (sym (combine-first q r.rows))
  cnots_below (suc k) q off =
      read_append (cnots k q t) (cnot_if (bit q k) k t) r ∙ ap (read_from (cnot_if (bit q k) k t)) (cnots_below k q off)
      ∙ one_reads (bit q k) k (q % 2 ^ k) (bit-lt q k) (apart q t k off) ∙ ap into (sym (combine-next q k r.rows))

  -- the parities of the wires of q go into wire t; all else stays
  pub read_cnots : (n q : ℕ) → q < 2 ^ n → bit q t ≡ 0 → read_from (cnots n q t) r ≡ with_rows (xor_into t q r.rows) r
  unfolding into
  read_cnots n q l off = cnots_below n q off ∙ ap (λ (m : ℕ). into (combine m r.rows)) (mod-eq_of_lt l)

-- ---- how many

length-one : (c i t : ℕ) → c < 2 → length (cnot_if c i t) ≡ c
unfolding cnot_if
length-one zero i t h = refl
length-one (suc zero) i t h = refl
length-one (suc (suc c)) i t h = absurd (omega arith)

-- one for each wire of q
pub length-cnots : (k q t : ℕ) → length (cnots k q t) ≡ sum k (λ i. bit q i)
unfolding cnots sum
length-cnots zero q t = refl
length-cnots (suc k) q t =
    length-append (cnots k q t) (cnot_if (bit q k) k t) ∙ ap₂ ◌+◌ (length-cnots k q t) (length-one (bit q k) k t (bit-lt q k))

-- fewer than n from a mask that does not name t
pub fewer_cnots : (n q t u : ℕ) → t < n → bit q t ≡ 0 → length (cnots n q u) + 1 ≤ n
fewer_cnots n q t u h off =
    omega (
      arith,
      length-cnots n q u,
      sum-update n t (λ i. bit q i) (λ i. bit (bit_xor q (2 ^ t)) i) h (λ i l ne. sym (flip_other q t i ne)),
      flip_same q t,
      bits_at_most n (λ i. bit (bit_xor q (2 ^ t)) i) (bit-lt (bit_xor q (2 ^ t))),
    )

-- ---- well formed

formed_one : (n c k t : ℕ) → c < 2 → k < n → t < n → (c ≡ 1 → k ≢ t) → AllWellFormed n (cnot_if c k t)
unfolding cnot_if kind_of
formed_one n zero k t h lk lt ne = tt
formed_one n (suc zero) k t h lk lt ne = ((lk, lt, ne refl), tt)
formed_one n (suc (suc c)) k t h lk lt ne = absurd (omega arith)

pub formed_cnots : (n k q t : ℕ) → k ≤ n → t < n → bit q t ≡ 0 → AllWellFormed n (cnots k q t)
unfolding cnots
formed_cnots n zero q t h lt off = tt
formed_cnots n (suc k) q t h lt off =
    formed_append n (cnots k q t) (cnot_if (bit q k) k t) (formed_cnots n k q t (omega arith) lt off)
    (formed_one n (bit q k) k t (bit-lt q k) (omega arith) lt (apart q t k off))

-- ---- no phase is added

kinds_one : (p c i t : ℕ) (r : Reading) → kinds_at p (cnot_if c i t) r ≡ []
unfolding kinds_at cnot_if kind_of
kinds_one p zero i t r = refl
kinds_one p (suc c) i t r = refl

pub kinds_cnots : (p k q t : ℕ) (r : Reading) → kinds_at p (cnots k q t) r ≡ []
unfolding cnots kinds_at
kinds_cnots p zero q t r = refl
kinds_cnots p (suc k) q t r =
    kinds_append p (cnots k q t) (cnot_if (bit q k) k t) r
    ∙ rw (kinds_cnots p k q t r) (kinds_one p (bit q k) k t (read_from (cnots k q t) r))
