-- A test for each claim, to be computed: where it holds, so does the claim.
use mathlib.Core.Bool.{◌&&◌, Bool, false, true}
use mathlib.Core.List.{List, [], ◌∷◌}
use mathlib.Core.Logic.{◌≢◌}
use mathlib.Core.Path.{ap₂, sym, ◌∙◌, ◌≡◌}
use Prim.Native.Nat.{◌+◌, ◌<◌, ◌^◌, ℕ}
use native.Mathlib.Omega.{arith}
use lib.Dec.{T, eqb, eqb→eq, ltb, ltb→lt}
use Rattle.circuit.specs.Faults.{first_fault}
use Rattle.circuit.specs.Gate.{Gate, t_gates}
use Rattle.circuit.specs.Limits.{max_members, max_wires, parities}
use Rattle.circuit.specs.OddSet.{member_count, odd_set}
use Rattle.circuit.specs.Read.{no_weights, read}
use Rattle.gf2.proofs.Brute.{T-both}
use Rattle.gf2.proofs.Every.{every-at}
use Rattle.gf2.specs.Every.{every}
use Rattle.gf2.specs.Selection.{combine}
use Rattle.moves.proofs.Deciding.{legal_decided, same_decided}
use Rattle.moves.specs.CarryOut.{carry_out}
use Rattle.moves.specs.Decide.{is_legal, same_cells}
use Rattle.phase.specs.Coefficients.{c, l, q}
use Rattle.phase.specs.NewWeights.{new_weights}
use Rattle.trimmed.specs.Trimmed.{odd_set_of, weights_of}
use Rattle.trimmed.specs.declared.Counts.{Counts}
use Rattle.trimmer.specs.Entry.{no_counts}
use Rattle.marked.proofs.Empty.{NothingToWrite, all_none, nothing_counted}
use Rattle.marked.specs.Cases.{AllClaimed, Case, Claim, coefficients, dependent, leaves, odd_set_with, reads, refuses}
use Rattle.marked.specs.Cases.{rows_with, trims, weights_with}
use Rattle.circuit.specs.Replies.{Reply}
use Rattle.circuit.specs.Replies.{Done, Refused}

-- a reply is that refusal
unfoldable pub is_refusal : Reply → ℕ → ℕ → Bool
is_refusal Done number place = false
is_refusal (Refused f i) number place = eqb f number && eqb i place

refusal : (r : Reply) (number place : ℕ) → T (is_refusal r number place) → r ≡ Refused number place
unfolding is_refusal
refusal Done number place t = absurd t
refusal (Refused f i) number place t =
    let h = (T-both (eqb f number) (eqb i place)).0 t in
    ap₂ (λ (a b : ℕ). Refused a b) (eqb→eq f number h.0) (eqb→eq i place h.1)

-- every coefficient of weights is that number
unfoldable pub all_l : ℕ → List ℕ → ℕ → Bool
all_l n w a = every n (λ i. eqb (l w i) a)

unfoldable pub all_q : ℕ → List ℕ → ℕ → Bool
all_q n w b = every n (λ j. every j (λ i. eqb (q w i j) b))

unfoldable pub all_c : ℕ → List ℕ → ℕ → Bool
all_c n w d = every n (λ k. every k (λ j. every j (λ i. eqb (c w i j k) d)))

l_all : (n : ℕ) (w : List ℕ) (a : ℕ) → T (all_l n w a) → (i : ℕ) → i < n → l w i ≡ a
unfolding all_l
l_all n w a t i h = eqb→eq (l w i) a (every-at n (λ i. eqb (l w i) a) t i h)

q_all : (n : ℕ) (w : List ℕ) (b : ℕ) → T (all_q n w b) → (i j : ℕ) → i < j → j < n → q w i j ≡ b
unfolding all_q
q_all n w b t i j h g = eqb→eq (q w i j) b (every-at j (λ i. eqb (q w i j) b) (every-at n (λ j. every j (λ i. eqb (q w i j) b)) t j g) i h)

c_all : (n : ℕ) (w : List ℕ) (d : ℕ) → T (all_c n w d) → (i j k : ℕ) → i < j → j < k → k < n → c w i j k ≡ d
unfolding all_c
c_all n w d t i j k h g f =
    eqb→eq (c w i j k) d
    (every-at j (λ i. eqb (c w i j k) d)
    (every-at k (λ j. every j (λ i. eqb (c w i j k) d)) (every-at n (λ k. every k (λ j. every j (λ i. eqb (c w i j k) d))) t k f) j g) i h)

-- a list has nothing to write, and counts are all 0
unfoldable pub is_nothing : List Gate → Bool
is_nothing gs =
    eqb (t_gates gs) 0 &&
    (eqb (member_count (odd_set_of 1 gs)) 0
    && same_cells (new_weights parities 1 (weights_of 1 gs) (odd_set_of 1 gs)) (no_weights max_wires))

is_nothing_lem : (gs : List Gate) → T (is_nothing gs) → NothingToWrite gs
unfolding is_nothing
is_nothing_lem gs h =
    let new : List ℕ = new_weights parities 1 (weights_of 1 gs) (odd_set_of 1 gs) in
    let odd : ℕ = member_count (odd_set_of 1 gs) in
    let a = (T-both (eqb (t_gates gs) 0) (eqb odd 0 && same_cells new (no_weights max_wires))).0 h in
    let b = (T-both (eqb odd 0) (same_cells new (no_weights max_wires))).0 a.1 in
    record {
      no_t = eqb→eq (t_gates gs) 0 a.0;
      no_odd = eqb→eq odd 0 b.0;
      none = (same_decided new (no_weights max_wires)).0 b.1;
    }

unfoldable pub are_none : Counts → Bool
are_none k = eqb (k.tin + k.odd + k.tout + k.moves + k.gates) 0

are_none_lem : (k : Counts) → T (are_none k) → k ≡ no_counts
unfolding are_none
are_none_lem k h =
    let e = eqb→eq (k.tin + k.odd + k.tout + k.moves + k.gates) 0 h in
    all_none k (omega arith) (omega arith) (omega arith) (omega arith) (omega arith)

unfoldable pub holds : Case → Bool
holds (reads n gs es rows t odd) =
    same_cells (read max_wires n gs).weights (weights_with es) &&
    (same_cells (read max_wires n gs).rows (rows_with rows)
    && (eqb (t_gates gs) t && eqb (member_count (odd_set (read max_wires n gs).weights)) odd))
holds (trims n gs k) = eqb n 1 && (is_nothing gs && are_none k)
holds (refuses n gs number place) = is_refusal (first_fault n 0 gs) number place
holds (coefficients n es a b d) = all_l n (weights_with es) a && (all_q n (weights_with es) b && all_c n (weights_with es) d)
holds (leaves n es z Y left) =
    is_legal max_members n (odd_set_with es) z Y && same_cells (carry_out (odd_set_with es) z Y) (weights_with left)
holds (dependent n rows s) = ltb 0 s && (ltb s (2 ^ n) && eqb (combine s (rows_with rows)) 0)

pub claimed : (k : Case) → T (holds k) → Claim k
unfolding holds
claimed (reads n gs es rows t odd) h =
    let w : List ℕ = (read max_wires n gs).weights in
    let s : List ℕ = (read max_wires n gs).rows in
    let a =
    (T-both (same_cells w (weights_with es))
    (same_cells s (rows_with rows) && (eqb (t_gates gs) t && eqb (member_count (odd_set w)) odd))).0 h in
    let b = (T-both (same_cells s (rows_with rows)) (eqb (t_gates gs) t && eqb (member_count (odd_set w)) odd)).0 a.1 in
    let d = (T-both (eqb (t_gates gs) t) (eqb (member_count (odd_set w)) odd)).0 b.1 in (
      (same_decided w (weights_with es)).0 a.0,
      (same_decided s (rows_with rows)).0 b.0,
      eqb→eq (t_gates gs) t d.0,
      eqb→eq (member_count (odd_set w)) odd d.1,
    )
claimed (trims n gs k) h =
    let a = (T-both (eqb n 1) (is_nothing gs && are_none k)).0 h in
    let b = (T-both (is_nothing gs) (are_none k)).0 a.1 in
    rw (eqb→eq n 1 a.0) (λ D log counts t written. nothing_counted (is_nothing_lem gs b.0) t written ∙ sym (are_none_lem k b.1))
claimed (refuses n gs number place) h = refusal (first_fault n 0 gs) number place h
claimed (coefficients n es a b d) h =
    let w : List ℕ = weights_with es in
    let s = (T-both (all_l n w a) (all_q n w b && all_c n w d)).0 h in
    let t = (T-both (all_q n w b) (all_c n w d)).0 s.1 in
    record { l_is = l_all n w a s.0; q_is = q_all n w b t.0; c_is = c_all n w d t.1 }
claimed (leaves n es z Y left) h =
    let m : List ℕ = odd_set_with es in
    let s = (T-both (is_legal max_members n m z Y) (same_cells (carry_out m z Y) (weights_with left))).0 h in
    ((legal_decided max_members n m z Y).0 s.0, (same_decided (carry_out m z Y) (weights_with left)).0 s.1)
claimed (dependent n rows s) h =
    let a = (T-both (ltb 0 s) (ltb s (2 ^ n) && eqb (combine s (rows_with rows)) 0)).0 h in
    let b = (T-both (ltb s (2 ^ n)) (eqb (combine s (rows_with rows)) 0)).0 a.1 in
    let some : s ≢ 0 = omega (arith, ltb→lt 0 s a.0) in
    let within : s < 2 ^ n = ltb→lt s (2 ^ n) b.0 in
    let cancel : combine s (rows_with rows) ≡ 0 = eqb→eq (combine s (rows_with rows)) 0 b.1 in
    (some, within, cancel, λ sound. sound.free s some within cancel)

-- every case of a list holds
unfoldable pub all_hold : List Case → Bool
all_hold [] = true
all_hold (k ∷ ks) = holds k && all_hold ks

pub all_claimed : (ks : List Case) → T (all_hold ks) → AllClaimed ks
unfolding all_hold
all_claimed [] t = tt
all_claimed (k ∷ ks) t = let h = (T-both (holds k) (all_hold ks)).0 t in (claimed k h.0, all_claimed ks h.1)
