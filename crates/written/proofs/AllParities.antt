-- All parities in turn: reading gives exactly the weights and changes nothing else, each weight is spelled at its parity, and there are at
-- most n * 2^n gates. Over n and N.
use mathlib.Core.List.{◌++◌, List, [], append-nil}
use mathlib.Core.Logic.{◌≢◌}
use mathlib.Core.Path.{ap, refl, sym, ◌∙◌, ◌≡◌}
use Prim.Native.Nat.{◌%◌, ◌*◌, ◌+◌, ◌<◌, ◌^◌, suc, zero, ℕ, ◌≤◌}
use native.Mathlib.Decide.{dec_lt, ℕ_discrete}
use native.Mathlib.Nat.{le_refl}
use native.Mathlib.Omega.{arith}
use lib.ListN.{get_or, length, length-append, length-set}
use lib.Pow.{pow_mono}
use lib.Seq.{ext_get_or}
use Rattle.circuit.proofs.Sound.{add_at-other, add_at-same, length_none, no_weight, read_append}
use Rattle.circuit.specs.Faults.{AllWellFormed}
use Rattle.circuit.specs.Read.{Reading, first_rows, read, read_from, start, with_weights}
use Rattle.circuit.specs.Sound.{SoundWeights, weight}
use Rattle.gf2.proofs.BitCounts.{bits_total}
use Rattle.gf2.specs.Bit.{bit}
use Rattle.gf2.specs.Sum.{sum}
use Rattle.gf2.specs.Table.{add_at}
use Rattle.written.proofs.Lists.{formed_append, kinds_append, together_first, together_then}
use Rattle.written.proofs.OneParity.{formed_parity, length-parity, parity-away, parity-here, parity-together, read_parity}
use Rattle.written.proofs.Spelled.{spelling-none}
use Rattle.written.specs.Spelling.{Together, kinds_at, spelling}
use Rattle.written.specs.Writing.{write_parity, write_phases}

-- what has been read after the parities below k: the weights below k, 0 elsewhere, and all else as at the start
record Passed (N n : ℕ) (w : List ℕ) (k : ℕ) (r : Reading) : Type 0 where
  long : length r.weights ≡ length w
  below : (p : ℕ) → p < k → get_or r.weights p 0 ≡ weight w p
  above : (p : ℕ) → k ≤ p → get_or r.weights p 0 ≡ 0
  else : r ≡ with_weights r.weights (start N n)

module _ (N n : ℕ) (fit : n ≤ N) (w : List ℕ) (sound : SoundWeights (2 ^ N) n w) where
  -- the first rows are still there
  rows_first : {k : ℕ} {r : Reading} → Passed N n w k r → r.rows ≡ first_rows N n
  rows_first h = ap (λ (x : Reading). x.rows) h.else

  -- ---- reading

  -- one parity more: nothing is written for weight 0, as at parity 0
  next : (k v : ℕ) → k < 2 ^ n → weight w k ≡ v → (r : Reading) → Passed N n w k r
      → Passed N n w (suc k) (read_from (write_parity N n k v) r)
  unfolding write_parity read_from
  next k zero l e r h =
      record { long = h.long; below = λ p lp. at p lp (ℕ_discrete p k); above = λ p lp. h.above p (omega arith); else = h.else }
    where
      at : (p : ℕ) → p < suc k → Dec (p ≡ k) → get_or r.weights p 0 ≡ weight w p
      at p lp (yes q) = h.above p (omega arith) ∙ sym (ap (weight w) q ∙ e)
      at p lp (no q) = h.below p (omega arith)
  next k (suc v) l e r h =
      rw done (
      record {
        long = length-set r.weights k ((get_or r.weights k 0 + suc v) % 8) ∙ h.long;
        below = λ p lp. at p lp (ℕ_discrete p k);
        above = λ p lp. add_at-other r.weights k (suc v) p (omega arith) ∙ h.above p (omega arith);
        else = ap (with_weights (add_at 8 r.weights k (suc v))) h.else;
      }
      )
    where
      some : k ≢ 0
      some z = let s : suc v ≡ 0 = sym e ∙ ap (weight w) z ∙ sound.none in omega arith

      inside : k < length r.weights
      inside = let m : 2 ^ n ≤ 2 ^ N = pow_mono fit in omega (arith, h.long, sound.long)

      small : suc v < 8
      small = rw e at (sound.small k)

      done : read_from (write_parity N n k (suc v)) r ≡ with_weights (add_at 8 r.weights k (suc v)) r
      done = read_parity N n k fit some l r (rows_first h) v (omega (arith, small)) inside

      at : (p : ℕ) → p < suc k → Dec (p ≡ k) → get_or (add_at 8 r.weights k (suc v)) p 0 ≡ weight w p
      at p lp (yes q) =
          ap (λ (i : ℕ). get_or (add_at 8 r.weights k (suc v)) i 0) q ∙ add_at-same r.weights k (suc v) inside
          ∙ ap (λ (y : ℕ). (y + suc v) % 8) (h.above k (le_refl k)) ∙ omega (arith, small) ∙ sym (ap (weight w) q ∙ e)
      at p lp (no q) = add_at-other r.weights k (suc v) p q ∙ h.below p (omega arith)

  -- the reading after the parities below k
  after : ℕ → Reading
  after k = read N n (write_phases N n w k)

  passed : (k : ℕ) → k ≤ 2 ^ n → Passed N n w k (after k)
  unfolding after write_phases read_from
  passed zero l =
      record { long = length_none N ∙ sym sound.long; below = λ p lp. absurd (omega arith); above = λ p lp. no_weight N p; else = refl }
  passed (suc k) l =
      rw (read_append (write_phases N n w k) (write_parity N n k (weight w k)) (start N n))
      (next k (weight w k) l refl (after k) (passed k (omega arith)))

  pub phases_read_back : read N n (write_phases N n w (2 ^ n)) ≡ with_weights w (start N n)
  unfolding after
  phases_read_back =
      h.else
      ∙ ap (λ (u : List ℕ). with_weights u (start N n)) (ext_get_or 0 (after (2 ^ n)).weights w h.long (λ p l. at p (dec_lt p (2 ^ n))))
    where
      h : Passed N n w (2 ^ n) (after (2 ^ n))
      h = passed (2 ^ n) (le_refl (2 ^ n))

      at : (p : ℕ) → Dec (p < 2 ^ n) → get_or (after (2 ^ n)).weights p 0 ≡ weight w p
      at p (yes l) = h.below p l
      at p (no g) = h.above p (omega arith) ∙ sym (sound.high p (omega arith))

  -- ---- well formed

  pub formed_phases : (k : ℕ) → k ≤ 2 ^ n → AllWellFormed n (write_phases N n w k)
  unfolding write_phases write_parity
  formed_phases zero l = tt
  formed_phases (suc k) l =
      formed_append n (write_phases N n w k) (write_parity N n k (weight w k)) (formed_phases k (omega arith)) (go (ℕ_discrete k 0))
    where
      go : Dec (k ≡ 0) → AllWellFormed n (write_parity N n k (weight w k))
      go (yes z) = rw (z, sound.none) tt
      go (no z) = formed_parity N n k fit z l (weight w k) (sound.small k)

  -- ---- the spelling

  -- one parity, from the first rows
  module _ (k : ℕ) (l : k < 2 ^ n) (r : Reading) (first : r.rows ≡ first_rows N n) where
    here : kinds_at k (write_parity N n k (weight w k)) r ≡ spelling (weight w k)
    unfolding write_parity kinds_at
    here = go (ℕ_discrete k 0)
      where
        go : Dec (k ≡ 0) → kinds_at k (write_parity N n k (weight w k)) r ≡ spelling (weight w k)
        go (yes z) = rw (ap (weight w) z ∙ sound.none) (sym spelling-none)
        go (no z) = parity-here N n k fit z l r first (weight w k) (sound.small k)

    away : (s : ℕ) → k ≢ s → kinds_at s (write_parity N n k (weight w k)) r ≡ []
    unfolding write_parity kinds_at
    away s ne = go (ℕ_discrete k 0)
      where
        go : Dec (k ≡ 0) → kinds_at s (write_parity N n k (weight w k)) r ≡ []
        go (yes z) = rw (ap (weight w) z ∙ sound.none)
        go (no z) = parity-away N n k fit z l r first (weight w k) (sound.small k) s ne

  -- the kinds at s that the parities below k add
  kinds : ℕ → ℕ → List ℕ
  kinds s k = kinds_at s (write_phases N n w k) (start N n)

  kinds_next : (s k : ℕ) → kinds s (suc k) ≡ kinds s k ++ kinds_at s (write_parity N n k (weight w k)) (after k)
  unfolding kinds after write_phases
  kinds_next s k = kinds_append s (write_phases N n w k) (write_parity N n k (weight w k)) (start N n)

  kinds_none : (k s : ℕ) → k ≤ s → k ≤ 2 ^ n → kinds s k ≡ []
  unfolding kinds write_phases kinds_at
  kinds_none zero s h l = refl
  kinds_none (suc k) s h l =
      kinds_next s k
      ∙ rw (kinds_none k s (omega arith) (omega arith)) (away k l (after k) (rows_first (passed k (omega arith))) s (omega arith))

  kinds_done : (k s : ℕ) → s < k → k ≤ 2 ^ n → kinds s k ≡ spelling (weight w s)
  kinds_done zero s h l = absurd (omega arith)
  kinds_done (suc k) s h l = kinds_next s k ∙ go (ℕ_discrete k s) (λ g. kinds_done k s g (omega arith))
    where
      first : (after k).rows ≡ first_rows N n
      first = rows_first (passed k (omega arith))

      go : Dec (k ≡ s) → (s < k → kinds s k ≡ spelling (weight w s))
          → kinds s k ++ kinds_at s (write_parity N n k (weight w k)) (after k) ≡ spelling (weight w s)
      go (yes e) f = rw (← e, kinds_none k k (le_refl k) (omega arith)) (here k l (after k) first)
      go (no e) f = rw (f (omega arith), away k l (after k) first s e) (append-nil (spelling (weight w s)))

  -- each weight is spelled at its parity
  pub kinds_phases : (s : ℕ) → kinds_at s (write_phases N n w (2 ^ n)) (start N n) ≡ spelling (weight w s)
  unfolding kinds
  kinds_phases s = go (dec_lt s (2 ^ n))
    where
      go : Dec (s < 2 ^ n) → kinds s (2 ^ n) ≡ spelling (weight w s)
      go (yes l) = kinds_done (2 ^ n) s l (le_refl (2 ^ n))
      go (no g) =
          kinds_none (2 ^ n) s (omega arith) (le_refl (2 ^ n)) ∙ sym spelling-none ∙ ap spelling (sym (sound.high s (omega arith)))

  -- by gates that stand together
  together_below : (k p : ℕ) → p < k → k ≤ 2 ^ n → weight w p ≢ 0 → Together p (weight w p) (write_phases N n w k) (start N n)
  unfolding after write_phases
  together_below zero p h l some = absurd (omega arith)
  together_below (suc k) p h l some = go (ℕ_discrete k p) (λ g. together_below k p g (omega arith) some)
    where
      first : (after k).rows ≡ first_rows N n
      first = rows_first (passed k (omega arith))

      one : (v : ℕ) → weight w k ≡ v → v ≢ 0 → Together k v (write_parity N n k v) (after k)
      one zero e ne = absurd (ne refl)
      one (suc v) e ne = parity-together N n k fit (λ z. ne (sym e ∙ ap (weight w) z ∙ sound.none)) l (after k) first v

      go : Dec (k ≡ p) → (p < k → Together p (weight w p) (write_phases N n w k) (start N n))
          → Together p (weight w p) (write_phases N n w k ++ write_parity N n k (weight w k)) (start N n)
      go (yes e) f = rw (← e) (together_then (write_phases N n w k) (start N n) (one (weight w k) refl (rw (← e) at some)))
      go (no e) f = together_first (f (omega arith)) (write_parity N n k (weight w k))

  pub phases_together : (p : ℕ) → weight w p ≢ 0 → Together p (weight w p) (write_phases N n w (2 ^ n)) (start N n)
  phases_together p some = go (dec_lt p (2 ^ n))
    where
      go : Dec (p < 2 ^ n) → Together p (weight w p) (write_phases N n w (2 ^ n)) (start N n)
      go (yes l) = together_below (2 ^ n) p l (le_refl (2 ^ n)) some
      go (no g) = absurd (some (sound.high p (omega arith)))

  -- ---- how many

  length-below : (k : ℕ) → k ≤ 2 ^ n → length (write_phases N n w k) ≤ sum k (λ p. 2 * sum n (λ i. bit p i))
  unfolding write_phases sum
  length-below zero l = omega arith
  length-below (suc k) l =
      omega (
        arith,
        length-append (write_phases N n w k) (write_parity N n k (weight w k)),
        length-below k (omega arith),
        one (ℕ_discrete k 0),
      )
    where
      none : (p : ℕ) → length (write_parity N n p 0) ≡ 0
      none p = unfold write_parity in refl

      one : Dec (k ≡ 0) → length (write_parity N n k (weight w k)) ≤ 2 * sum n (λ i. bit k i)
      one (yes z) = rw (ap (weight w) z ∙ sound.none) (omega (arith, none k))
      one (no z) = length-parity N n k fit z l (weight w k) (sound.small k)

  -- two for each wire of each parity
  pub length-phases : length (write_phases N n w (2 ^ n)) ≤ n * 2 ^ n
  length-phases = omega (arith, length-below (2 ^ n) (le_refl (2 ^ n)), bits_total n)

-- a part is no longer than the whole
pub phases_grow : (N n : ℕ) (w : List ℕ) (k m : ℕ) → k ≤ m → length (write_phases N n w k) ≤ length (write_phases N n w m)
unfolding write_phases
phases_grow N n w k zero l = let e : k ≡ 0 = omega arith in rw e (omega arith)
phases_grow N n w k (suc m) l = go (ℕ_discrete k (suc m)) (λ h. phases_grow N n w k m h)
  where
    go : Dec (k ≡ suc m) → (k ≤ m → length (write_phases N n w k) ≤ length (write_phases N n w m))
        → length (write_phases N n w k) ≤ length (write_phases N n w m ++ write_parity N n m (weight w m))
    go (yes e) f = rw e (le_refl _)
    go (no e) f = omega (arith, f (omega arith), length-append (write_phases N n w m) (write_parity N n m (weight w m)))
