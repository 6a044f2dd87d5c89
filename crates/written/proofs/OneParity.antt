-- One parity: CNOTs into its lowest wire, the spelling, the same CNOTs. The rows come back, and the weight is added at the parity.
-- Over n and N.
use mathlib.Core.List.{◌++◌, List, [], append-nil}
use mathlib.Core.Logic.{◌≢◌}
use mathlib.Core.Path.{ap, ap₂, refl, sym, ◌∙◌, ◌≡◌}
use Prim.Native.Nat.{◌%◌, ◌*◌, ◌+◌, ◌<◌, ◌^◌, suc, zero, ℕ, ◌≤◌}
use native.Mathlib.Nat.{le_refl}
use native.Mathlib.Omega.{arith}
use lib.Bits.{bit_xor, xor_comm, xor_lt}
use lib.ListN.{length, length-append, length-set}
use lib.Pow.{pow-lt, pow_mono}
use lib.Seq.{get_or-set_same}
use Rattle.circuit.proofs.Sound.{combine-first_rows, first_row_lem, length-first, read_append}
use Rattle.circuit.specs.Faults.{AllWellFormed}
use Rattle.circuit.specs.Read.{Reading, first_rows, read_from, row, with_rows, with_weights}
use Rattle.gf2.proofs.BitCounts.{flip_other, flip_same}
use Rattle.gf2.proofs.XorInto.{xor_into, into_twice}
use Rattle.gf2.proofs.Leading.{bit-inside, bit-lowest}
use Rattle.gf2.proofs.Sum.{sum-update}
use Rattle.gf2.proofs.Xor.{xor_cancel}
use Rattle.gf2.specs.Bit.{bit}
use Rattle.gf2.specs.Parity.{lowest}
use Rattle.gf2.specs.Selection.{combine}
use Rattle.gf2.specs.Sum.{sum}
use Rattle.gf2.specs.Table.{add_at}
use Rattle.written.proofs.Cnots.{formed_cnots, kinds_cnots, length-cnots, read_cnots}
use Rattle.written.proofs.Lists.{formed_append, kinds_append}
use Rattle.written.proofs.Spelled.{formed_spell, kinds_away, kinds_here, length-spell, read_spell, spelling-none}
use Rattle.written.specs.Spelling.{Together, kinds_at, spell, spelling}
use Rattle.written.specs.Writing.{around, cnots, others, write_parity}

-- wire t comes to hold p by CNOTs from the wires of q
record Brought (n q t p : ℕ) (r : Reading) : Type 0 where
  less : q < 2 ^ n
  off : bit q t ≡ 0
  low : t < length r.rows
  holds : bit_xor (row r t) (combine q r.rows) ≡ p

module _ {n q t p : ℕ} {r : Reading} (b : Brought n q t p r) where
  -- the reading between the CNOTs
  held : Reading
  held = with_rows (xor_into t q r.rows) r

  at : row held t ≡ p
  unfolding held
  at = get_or-set_same r.rows t (bit_xor (row r t) (combine q r.rows)) 0 b.low ∙ b.holds

  in_between : read_from (cnots n q t) r ≡ held
  unfolding held
  in_between = read_cnots t r b.low n q b.less b.off

  -- v is added at p
  added : ℕ → Reading → Reading
  added v s = with_weights (add_at 8 s.weights p v) s

  undone : (v : ℕ) → read_from (cnots n q t) (added v held) ≡ added v r
  unfolding held added
  undone v =
      read_cnots t (added v held) (rw (length-set r.rows t (bit_xor (row r t) (combine q r.rows))) b.low) n q b.less b.off
      ∙ ap (λ (rows : List ℕ). with_rows rows (added v held)) (into_twice t q b.off r.rows b.low)

  read_around : (v : ℕ) → v < 7 → p < length r.weights → read_from (around n q t (suc v)) r ≡ added (suc v) r
  unfolding around held added
  read_around v small l =
      read_append (cnots n q t) (spell (suc v) t ++ cnots n q t) r ∙ ap (read_from (spell (suc v) t ++ cnots n q t)) in_between
      ∙ read_append (spell (suc v) t) (cnots n q t) held
      ∙ ap (read_from (cnots n q t))
      (read_spell v t held small (rw at l) ∙ ap (λ (c : ℕ). with_weights (add_at 8 held.weights c (suc v)) held) at)
      ∙ undone (suc v)

  module _ (v : ℕ) where
    -- only the spelled gates add phases, and they do at p
    kinds_around : (s : ℕ) → kinds_at s (around n q t v) r ≡ kinds_at s (spell v t) held
    unfolding around
    kinds_around s =
        kinds_append s (cnots n q t) (spell v t ++ cnots n q t) r
        ∙ rw (
          kinds_cnots s n q t r,
          in_between,
          kinds_append s (spell v t) (cnots n q t) held,
          kinds_cnots s n q t (read_from (spell v t) held),
        ) (append-nil (kinds_at s (spell v t) held))

    around_here : v < 8 → kinds_at p (around n q t v) r ≡ spelling v
    around_here small = kinds_around p ∙ kinds_here p v t small held at

    around_away : v < 8 → (s : ℕ) → p ≢ s → kinds_at s (around n q t v) r ≡ []
    around_away small s ne = kinds_around s ∙ kinds_away s v t small held (λ e. ne (sym at ∙ e))

-- the lowest wire of p, and its other wires
module _ (N n p : ℕ) (fit : n ≤ N) (some : p ≢ 0) (less : p < 2 ^ n) where
  on : bit p (lowest N p) ≡ 1
  on = let m : 2 ^ n ≤ 2 ^ N = pow_mono fit in bit-lowest N p some (omega arith)

  lowest-inside : lowest N p < n
  lowest-inside = bit-inside n p (lowest N p) less on

  others_off : bit (others N p) (lowest N p) ≡ 0
  others_off = flip_same p (lowest N p) ∙ ap (λ (c : ℕ). (c + 1) % 2) on

  others_less : others N p < 2 ^ n
  others_less = xor_lt n p (2 ^ lowest N p) less (pow-lt lowest-inside)

  -- one wire fewer than p
  others_count : sum n (λ i. bit (others N p) i) + 1 ≡ sum n (λ i. bit p i)
  others_count =
      omega (
        arith,
        sum-update n (lowest N p) (λ i. bit p i) (λ i. bit (others N p) i) lowest-inside (λ i l ne. sym (flip_other p (lowest N p) i ne)),
        on,
        others_off,
      )

  -- from the first rows, the lowest wire comes to hold p
  module _ (r : Reading) (first : r.rows ≡ first_rows N n) where
    brought : Brought n (others N p) (lowest N p) p r
    brought =
        record {
          less = others_less;
          off = others_off;
          low = rw (first, length-first N n) (omega (arith, lowest-inside));
          holds =
              rw first
              (ap₂ bit_xor (first_row_lem N n (lowest N p) lowest-inside fit) (combine-first_rows N n (others N p) fit others_less)
              ∙ xor_comm (2 ^ lowest N p) (others N p) ∙ xor_cancel p (2 ^ lowest N p));
        }

    -- the rows come back, and v is added at p
    pub read_parity : (v : ℕ) → v < 7 → p < length r.weights
        → read_from (write_parity N n p (suc v)) r ≡ with_weights (add_at 8 r.weights p (suc v)) r
    unfolding write_parity
    read_parity v h l = unfold added in read_around brought v h l

    pub parity-here : (v : ℕ) → v < 8 → kinds_at p (write_parity N n p v) r ≡ spelling v
    unfolding write_parity kinds_at
    parity-here zero h = sym spelling-none
    parity-here (suc v) h = around_here brought (suc v) h

    pub parity-together : (v : ℕ) → Together p (suc v) (write_parity N n p (suc v)) r
    unfolding write_parity around
    parity-together v =
        let q : ℕ = others N p in
        let t : ℕ = lowest N p in
        record {
          wire = t;
          before = cnots n q t;
          after = cnots n q t;
          is = refl;
          holds = ap (λ (s : Reading). row s t) (in_between brought) ∙ at brought;
        }

    pub parity-away : (v : ℕ) → v < 8 → (s : ℕ) → p ≢ s → kinds_at s (write_parity N n p v) r ≡ []
    unfolding write_parity kinds_at
    parity-away zero h s ne = refl
    parity-away (suc v) h s ne = around_away brought (suc v) h s ne

  pub formed_parity : (v : ℕ) → v < 8 → AllWellFormed n (write_parity N n p v)
  unfolding write_parity around
  formed_parity zero h = tt
  formed_parity (suc v) h =
      let q : ℕ = others N p in
      let t : ℕ = lowest N p in
      let c : AllWellFormed n (cnots n q t) = formed_cnots n n q t (le_refl n) lowest-inside others_off in
      formed_append n (cnots n q t) (spell (suc v) t ++ cnots n q t) c
      (formed_append n (spell (suc v) t) (cnots n q t) (formed_spell n (suc v) t h lowest-inside) c)

  -- at most two gates for each wire of p
  pub length-parity : (v : ℕ) → v < 8 → length (write_parity N n p v) ≤ 2 * sum n (λ i. bit p i)
  unfolding write_parity around
  length-parity zero h = omega arith
  length-parity (suc v) h =
      let q : ℕ = others N p in
      let t : ℕ = lowest N p in
      omega (
        arith,
        length-append (cnots n q t) (spell (suc v) t ++ cnots n q t),
        length-append (spell (suc v) t) (cnots n q t),
        length-cnots n q t,
        length-spell (suc v) t h,
        others_count,
      )
