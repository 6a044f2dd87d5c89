-- "Invertible" said of states: rows are independent exactly if no two basis states below 2^n end in the same state.
use mathlib.Core.List.{List, ◌∷◌}
use mathlib.Core.Logic.{◌≢◌}
use mathlib.Core.Path.{ap, sym, ◌∙◌, ◌≡◌}
use Prim.Native.Nat.{◌%◌, ◌*◌, ◌/◌, ◌<◌, ◌^◌, suc, zero, ℕ}
use native.Mathlib.Decide.{dec_lt, ℕ_discrete}
use native.Mathlib.Nat.{le_refl, mod-eq_of_lt, one-mul, zero-mul}
use native.Mathlib.Omega.{arith}
use lib.Bits.{bit_xor, xor_lt}
use lib.ListN.{get_or}
use lib.Pow.{pow-lt}
use Rattle.circuit.proofs.ReadRuns.{end_bit, end_lt}
use Rattle.circuit.specs.Says.{end_state}
use Rattle.gf2.proofs.Bit.{bit-ext, bit-lt, bit-of_zero}
use Rattle.gf2.proofs.Dependence.{dependent, pigeon}
use Rattle.gf2.proofs.Leading.{lowest_set}
use Rattle.gf2.proofs.Pairing.{xor_equal}
use Rattle.gf2.proofs.Parity.{parity-comm, parity-lt, parity-pow, parity-xor, parity-xor_r}
use Rattle.gf2.proofs.Selection.{combine-first, combine-next}
use Rattle.gf2.proofs.Sum.{sum-ext, sum-zero}
use Rattle.gf2.specs.Bit.{bit}
use Rattle.gf2.specs.Over.{Below}
use Rattle.gf2.specs.Parity.{lowest, parity}
use Rattle.gf2.specs.Selection.{Independent, combine}
use Rattle.gf2.specs.Sum.{sum}

parity-none : (n x : ℕ) → parity n 0 x ≡ 0
unfolding parity
parity-none n x =
    ap (λ (s : ℕ). s % 2) (sum-ext n (λ i. bit 0 i * bit x i) (λ i. 0) (λ i l. rw (bit-of_zero i) (omega arith)) ∙ sum-zero n)

parity-scale : (n b p x : ℕ) → b < 2 → parity n (b * p) x ≡ b * parity n p x
parity-scale n zero p x h = rw (zero-mul p, zero-mul (parity n p x)) (parity-none n x)
parity-scale n (suc zero) p x h = rw (one-mul p, one-mul (parity n p x))
parity-scale n (suc (suc b)) p x h = absurd (omega arith)

module _ (n : ℕ) (rows : List ℕ) where
  -- a combination of rows, of x: the sum of the rows of x that it names
  combined : (s x k : ℕ) → parity n (combine (s % 2 ^ k) rows) x ≡ sum k (λ i. bit s i * parity n (get_or rows i 0) x) % 2
  unfolding sum
  combined s x zero = rw (combine-first s rows) (parity-none n x)
  combined s x (suc k) =
      rw (
        combine-next s k rows,
        parity-xor n (combine (s % 2 ^ k) rows) (bit s k * get_or rows k 0) x,
        parity-scale n (bit s k) (get_or rows k 0) x (bit-lt s k),
        combined s x k,
      )
      (omega arith)

  -- so it is that of the end state of x
  combined_end : (s x : ℕ) → s < 2 ^ n → parity n (combine s rows) x ≡ parity n s (end_state n rows x)
  unfolding parity
  combined_end s x h =
      ap (λ (t : ℕ). parity n (combine t rows) x) (sym (mod-eq_of_lt h)) ∙ combined s x n
      ∙ ap (λ (t : ℕ). t % 2)
      (sum-ext n (λ i. bit s i * parity n (get_or rows i 0) x) (λ i. bit s i * bit (end_state n rows x) i)
      (λ i l. rw (end_bit n rows x i l)))

  abbrev Distinct : Type 0
  Distinct = (x y : ℕ) → x < 2 ^ n → y < 2 ^ n → end_state n rows x ≡ end_state n rows y → x ≡ y

  -- ---- independent rows tell the states apart

  module _ (within : (i : ℕ) → get_or rows i 0 < 2 ^ n) (free : Independent n rows) where
    -- each wire's own parity is a combination of rows
    unit_combined : (j : ℕ) → j < n → (s : ℕ) × (s < 2 ^ n) × (2 ^ j ≡ combine s rows)
    unfolding combine
    unit_combined j h =
        let d = dependent n (2 ^ j ∷ rows) below in
        (d.0 / 2, omega (arith, d.2), go d.0 d.1 d.2 (ℕ_discrete (d.0 % 2) 0) d.3)
      where
        below : Below (2 ^ n) (2 ^ j ∷ rows)
        below zero l = pow-lt h
        below (suc i) l = within i

        go : (u : ℕ) → u ≢ 0 → u < 2 ^ suc n → Dec (u % 2 ≡ 0) → bit_xor (u % 2 * 2 ^ j) (combine (u / 2) rows) ≡ 0
            → 2 ^ j ≡ combine (u / 2) rows
        go u ne l (yes even) e =
            let none : combine (u / 2) rows ≡ 0 = sym (xor_equal (u % 2 * 2 ^ j) (combine (u / 2) rows) e) ∙ rw even (omega arith) in
            absurd (free (u / 2) (omega arith) (omega arith) none)
        go u ne l (no odd) e =
            let one : u % 2 ≡ 1 = omega arith in
            let same : 1 * 2 ^ j ≡ combine (u / 2) rows = rw one at (xor_equal (u % 2 * 2 ^ j) (combine (u / 2) rows) e) in
            omega arith

    -- a state that ends in 0 is 0
    ends_nowhere : (z : ℕ) → z < 2 ^ n → end_state n rows z ≡ 0 → z ≡ 0
    ends_nowhere z l e = bit-ext n z 0 l (omega (arith, l)) (λ j h. none j h (unit_combined j h) ∙ sym (bit-of_zero j))
      where
        none : (j : ℕ) → j < n → (s : ℕ) × (s < 2 ^ n) × (2 ^ j ≡ combine s rows) → bit z j ≡ 0
        none j h (s, ls, is) =
            sym (parity-pow n j z h) ∙ ap (λ (p : ℕ). parity n p z) is ∙ combined_end s z ls
            ∙ ap (parity n s) e ∙ parity-comm n s 0 ∙ parity-none n s

    pub independent_distinct : Distinct
    independent_distinct x y lx ly e =
        xor_equal x y (ends_nowhere (bit_xor x y) (xor_lt n x y lx ly)
        (bit-ext n (end_state n rows (bit_xor x y)) 0 (end_lt n rows (bit_xor x y)) (omega (arith, lx))
        (λ i h. at i h ∙ sym (bit-of_zero i))))
      where
        at : (i : ℕ) → i < n → bit (end_state n rows (bit_xor x y)) i ≡ 0
        at i h =
            let same : parity n (get_or rows i 0) x ≡ parity n (get_or rows i 0) y =
            sym (end_bit n rows x i h) ∙ ap (λ (s : ℕ). bit s i) e ∙ end_bit n rows y i h in
            end_bit n rows (bit_xor x y) i h ∙ parity-xor_r n (get_or rows i 0) x y
            ∙ rw same (omega (arith, parity-lt n (get_or rows i 0) y))

  -- ---- rows that tell the states apart are independent

  module _ (c : ℕ) where
    -- the end state of i, or c where i is no state
    abbrev pick : (i : ℕ) → Dec (i < 2 ^ n) → ℕ
    pick i (yes h) = end_state n rows i
    pick i (no h) = c

    pick_lt : c < 2 ^ n → (i : ℕ) (d : Dec (i < 2 ^ n)) → pick i d < 2 ^ n
    pick_lt l i (yes h) = end_lt n rows i
    pick_lt l i (no h) = l

    -- where no two end states are the same, every state is one
    ends_there : Distinct → c < 2 ^ n → (x : ℕ) × (end_state n rows x ≡ c)
    ends_there apart l =
        let t = pigeon (2 ^ n) (λ i. pick i (dec_lt i (2 ^ n))) (λ i h. pick_lt l i (dec_lt i (2 ^ n))) in
        go t.0 t.1 t.2 t.3 (dec_lt t.0 (2 ^ n)) (dec_lt t.1 (2 ^ n)) t.4
      where
        go : (i j : ℕ) → i < j → j < suc (2 ^ n) → (d : Dec (i < 2 ^ n)) (f : Dec (j < 2 ^ n)) → pick i d ≡ pick j f
            → (x : ℕ) × (end_state n rows x ≡ c)
        go i j h k (yes a) (yes b) e = absurd (omega (arith, apart i j a b e))
        go i j h k (yes a) (no b) e = (i, e)
        go i j h k (no a) f e = absurd (omega arith)

  -- the combination s of some x is that of its end state; and some x ends with the lowest wire of s alone
  pub distinct_independent : Distinct → Independent n rows
  distinct_independent apart s some l e = absurd (omega (arith, odd (ends_there (2 ^ lowest n s) apart (pow-lt set.0))))
    where
      set : (lowest n s < n) × (bit s (lowest n s) ≡ 1)
      set = lowest_set n n s (le_refl n) some l

      odd : (x : ℕ) × (end_state n rows x ≡ 2 ^ lowest n s) → ◌≡◌ {A = ℕ} 0 1
      odd (x, there) =
          sym (parity-none n x) ∙ ap (λ (p : ℕ). parity n p x) (sym e) ∙ combined_end s x l ∙ ap (parity n s) there
          ∙ parity-comm n s (2 ^ lowest n s) ∙ parity-pow n (lowest n s) s set.0 ∙ set.1
