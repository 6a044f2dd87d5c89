-- Reading is running: for every list without faults and every state, the end state and the phase are those that its weights and rows give.
-- Over n and N.
use mathlib.Core.List.{List, [], ◌∷◌}
use mathlib.Core.Logic.{◌≢◌}
use mathlib.Core.Path.{ap, ap₂, sym, ◌∙◌, ◌≡◌}
use Prim.Native.Nat.{◌%◌, ◌*◌, ◌+◌, ◌<◌, ◌^◌, ℕ, ◌≤◌}
use native.Mathlib.Decide.{ℕ_discrete}
use native.Mathlib.Nat.{mod-add-mod, mul-one, mul-zero, zero-mul}
use native.Mathlib.Omega.{arith}
use lib.Bits.{bit_xor}
use lib.ListN.{get_or, length, set}
use lib.Pow.{low, pow-lt, pow_mono}
use lib.Seq.{get_or-set_other, get_or-set_same}
use Rattle.gf2.proofs.Bit.{bit-ext, bit-lt, bit-pow_other, bit-pow_same, bit-scale, bit-xor}
use Rattle.gf2.proofs.Digits.{bit-digits, digits_lt}
use Rattle.gf2.proofs.Parity.{parity-lt, parity-pow, parity-xor}
use Rattle.gf2.proofs.Selection.{remask_lt}
use Rattle.gf2.proofs.Sum.{sum-ext, sum-zero}
use Rattle.gf2.proofs.Table.{weighted_sum-add_at}
use Rattle.gf2.specs.Bit.{bit}
use Rattle.gf2.specs.Parity.{parity}
use Rattle.gf2.specs.Table.{add_at, weighted_sum}
use Rattle.circuit.proofs.Sound.{first_row_lem, gate_keeps, no_weight, start_sound}
use Rattle.circuit.specs.Faults.{AllWellFormed, KindWellFormed, WellFormed}
use Rattle.circuit.specs.Gate.{Gate, gate, kind_of}
use Rattle.circuit.specs.Read.{Reading, join_rows, no_weights, read, read_from, read_gate, read_kind, row, start}
use Rattle.circuit.specs.Run.{State, flip_target, run, run_from, run_gate, run_kind}
use Rattle.circuit.specs.Says.{end_state, phase_at, says}
use Rattle.circuit.specs.Sound.{SoundReading}
use Rattle.circuit.specs.Gate.{Kind}
use Rattle.circuit.specs.Gate.{Cnot, Phase, Unknown}

-- what a reading says of the state that x has become, bit by bit
pub record Tells (n x : ℕ) (r : Reading) (s : State) : Type 0 where
  pub end : (i : ℕ) → i < n → bit s.bits i ≡ parity n (row r i) x
  pub phase : s.phase ≡ phase_at n r.weights x

pub phase_none : (n N x : ℕ) → phase_at n (no_weights N) x ≡ 0
unfolding phase_at weighted_sum
phase_none n N x =
    ap (λ (y : ℕ). y % 8)
    (sum-ext (length (no_weights N)) (λ p. get_or (no_weights N) p 0 * parity n p x) (λ p. 0)
    (λ p l. rw (no_weight N p) (zero-mul (parity n p x)))
    ∙ sum-zero (length (no_weights N)))

start_tells : (N n x : ℕ) → n ≤ N → Tells n x (start N n) (record { bits = x; phase = 0 })
start_tells N n x fit =
    record {
      end = λ i l. sym (ap (λ (q : ℕ). parity n q x) (first_row_lem N n i l fit) ∙ parity-pow n i x l);
      phase = sym (phase_none n N x);
    }

-- on the state: bit b becomes bit b XOR bit a, and the others stay
pub target_bit : (a b y : ℕ) → bit (flip_target a b y) b ≡ (bit y b + bit y a) % 2
target_bit a b y =
    bit-xor y (bit y a * 2 ^ b) b
    ∙ ap (λ (c : ℕ). (bit y b + c) % 2)
    (bit-scale (bit y a) (2 ^ b) b (bit-lt y a) ∙ ap (λ (c : ℕ). bit y a * c) (bit-pow_same b) ∙ mul-one (bit y a))

pub other_bit : (a b y i : ℕ) → i ≢ b → bit (flip_target a b y) i ≡ bit y i
other_bit a b y i ne =
    bit-xor y (bit y a * 2 ^ b) i
    ∙ ap (λ (c : ℕ). (bit y i + c) % 2)
    (bit-scale (bit y a) (2 ^ b) i (bit-lt y a) ∙ ap (λ (c : ℕ). bit y a * c) (bit-pow_other b i (λ e. ne (sym e))) ∙ mul-zero (bit y a))
    ∙ omega (arith, bit-lt y i)

target_tells : (n x a b y : ℕ) (rows : List ℕ) → a < n → b < n → b < length rows
    → ((i : ℕ) → i < n → bit y i ≡ parity n (get_or rows i 0) x)
    → (i : ℕ) → i < n → bit (flip_target a b y) i ≡ parity n (get_or (join_rows a b rows) i 0) x
target_tells n x a b y rows la lb low h i l = go (ℕ_discrete i b)
  where
    joined : ℕ
    joined = bit_xor (get_or rows b 0) (get_or rows a 0)

    go : Dec (i ≡ b) → bit (flip_target a b y) i ≡ parity n (get_or (set rows b joined) i 0) x
    go (yes e) =
        rw (e, target_bit a b y, h a la, h b lb, get_or-set_same rows b joined 0 low)
        (sym (parity-xor n (get_or rows b 0) (get_or rows a 0) x))
    go (no g) = rw (other_bit a b y i g, get_or-set_other rows b i joined 0 g) (h i l)

phase_tells : (n x v q c φ : ℕ) (w : List ℕ) → q < length w → c ≡ parity n q x → φ ≡ phase_at n w x
    → (φ + v * c) % 8 ≡ phase_at n (add_at 8 w q v) x
unfolding phase_at
phase_tells n x v q c φ w h ec eφ =
    rw (ec, eφ)
    (mod-add-mod (weighted_sum w (λ p. parity n p x)) 8 (v * parity n q x) ∙ sym (weighted_sum-add_at 8 w (λ p. parity n p x) q v h))

-- ---- along the list

kind_tells : (N n x : ℕ) → n ≤ N → (k : Kind) (a b : ℕ) (r : Reading) (s : State) → KindWellFormed n k a b → SoundReading N n r
    → Tells n x r s
    → Tells n x (read_kind k a b r) (run_kind k a b s)
unfolding read_kind run_kind
kind_tells N n x fit Cnot a b r s f o t =
    record { end = target_tells n x a b s.bits r.rows f.0 f.1 (omega (arith, o.rows.long)) t.end; phase = t.phase }
kind_tells N n x fit (Phase v) a b r s f o t =
    let m : 2 ^ n ≤ 2 ^ N = pow_mono fit in
    record {
      end = t.end;
      phase =
          phase_tells n x v (row r a) (bit s.bits a) s.phase r.weights (omega (arith, o.weights.long, o.rows.within a))
          (t.end a f.0) t.phase;
    }
kind_tells N n x fit Unknown a b r s f o t = absurd f

gate_tells : (N n x : ℕ) → n ≤ N → (g : Gate) (r : Reading) (s : State) → WellFormed n g → SoundReading N n r → Tells n x r s
    → Tells n x (read_gate g r) (run_gate g s)
gate_tells N n x fit (gate kind a b) r s f o t = kind_tells N n x fit (kind_of kind) a b r s f o t

reading_tells : (N n x : ℕ) → n ≤ N → (gs : List Gate) (r : Reading) (s : State) → AllWellFormed n gs → SoundReading N n r → Tells n x r s
    → Tells n x (read_from gs r) (run_from gs s)
unfolding read_from run_from
reading_tells N n x fit [] r s f o t = t
reading_tells N n x fit (g ∷ gs) r s f o t =
    reading_tells N n x fit gs (read_gate g r) (run_gate g s) f.1 (gate_keeps N n fit g r f.0 o) (gate_tells N n x fit g r s f.0 o t)

-- ---- a state of n wires stays one

kind_within : (n : ℕ) (k : Kind) (a b : ℕ) (s : State) → KindWellFormed n k a b → s.bits < 2 ^ n → (run_kind k a b s).bits < 2 ^ n
unfolding run_kind
kind_within n Cnot a b s f l = remask_lt n a (2 ^ b) s.bits (pow-lt f.1) l
kind_within n (Phase v) a b s f l = l
kind_within n Unknown a b s f l = absurd f

gate_within : (n : ℕ) (g : Gate) (s : State) → WellFormed n g → s.bits < 2 ^ n → (run_gate g s).bits < 2 ^ n
gate_within n (gate kind a b) s f l = kind_within n (kind_of kind) a b s f l

pub run_within : (n : ℕ) (gs : List Gate) (s : State) → AllWellFormed n gs → s.bits < 2 ^ n → (run_from gs s).bits < 2 ^ n
unfolding run_from
run_within n [] s f l = l
run_within n (g ∷ gs) s f l = run_within n gs (run_gate g s) f.1 (gate_within n g s f.0 l)

-- ---- the end state as a number

pub end_bit : (n : ℕ) (rows : List ℕ) (x i : ℕ) → i < n → bit (end_state n rows x) i ≡ parity n (get_or rows i 0) x
unfolding end_state
end_bit n rows x i l = bit-digits (λ i. parity n (get_or rows i 0) x) (λ i. parity-lt n (get_or rows i 0) x) n i l

pub end_lt : (n : ℕ) (rows : List ℕ) (x : ℕ) → end_state n rows x < 2 ^ n
unfolding end_state
end_lt n rows x = digits_lt (λ i. parity n (get_or rows i 0) x) (λ i. parity-lt n (get_or rows i 0) x) n

told : (n x : ℕ) (r : Reading) (s : State) → s.bits < 2 ^ n → Tells n x r s → s ≡ says n r x
told n x r s l t =
    ap₂ (λ (y φ : ℕ). record { bits = y; phase = φ })
    (bit-ext n s.bits (end_state n r.rows x) l (end_lt n r.rows x) (λ i h. t.end i h ∙ sym (end_bit n r.rows x i h)))
    t.phase

-- running a list gives the end state and phase that its weights and rows give
pub read_runs : (N n : ℕ) → n ≤ N → (gs : List Gate) → AllWellFormed n gs → (x : ℕ) → x < 2 ^ n → run gs x ≡ says n (read N n gs) x
read_runs N n fit gs f x l =
    told n x (read N n gs) (run gs x) (run_within n gs (record { bits = x; phase = 0 }) f l)
    (reading_tells N n x fit gs (start N n) (record { bits = x; phase = 0 }) f (start_sound N n fit) (start_tells N n x fit))
