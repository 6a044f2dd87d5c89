-- The loop that stores the gates of a text without a fault.
use mathlib.Core.Bool.{true}
use mathlib.Core.List.{List, [], ◌∷◌, ◌++◌, append_assoc}
use mathlib.Core.Path.{◌∙◌, ◌≡◌, ap, refl, sym}
use Prim.Native.Nat.{◌*◌, ◌+◌, ◌-◌, ◌/◌, ◌<◌, ◌≤◌, suc, zero, ℕ}
use native.Mathlib.Decide.{dec_lt}
use native.Mathlib.Nat.{add-zero, mul-zero}
use native.Mathlib.Numerals.{add-one}
use native.Mathlib.Omega.{arith}
use lib.ListN.{drop, drop_of_length-le, get_or, length, take}
use lib.Seq.{drop-cons, drop-drop, get_or-drop, get_or-take, length-sets, sets}
use Rattle.std.specs.Simd.{first_chunks}
use borrow.Rule.Slice.PartMut.{Post-is, put_mid}
use Rattle.circuit.proofs.Placing.{sets_append, sets_placed}
use Rattle.circuit.specs.Lent.{placed}
use Rattle.circuit.specs.Limits.{gate_bytes, max_gates, max_list_bytes}
use Rattle.circuit.specs.Replies.{Done}
use Rattle.text.proofs.LineForms.{formed_lines, formed_long}
use Rattle.text.proofs.TextFaults.{done_few, done_formed, done_next, fault_from}
use Rattle.text.specs.Limits.{gate_digits, gate_line_bytes}
use Rattle.text.specs.Lines.{byte_at, decoded, first_formed, gate_decoded_at, lines_decoded, lines_of}
use Rattle.text.specs.Placed.{Stores}

-- ---- the bytes that the gate lines from place `at` on stand for

abbrev pub bytes_from : List ℕ → ℕ → List ℕ
bytes_from t at = lines_decoded (lines_of (drop at t))

decoded_two : (t : List ℕ) (p k : ℕ) → p + 1 < length t
    → decoded (take (suc (suc k)) (drop p t)) ≡ byte_at t p ∷ decoded (take k (drop (p + 2) t))
unfolding decoded
decoded_two t p k h =
    let e : suc (suc p) ≡ p + 2 = omega arith in
    let d = drop-cons t p 0 (omega arith) ∙ ap (λ (l : List ℕ). get_or t p 0 ∷ l) (drop-cons t (suc p) 0 (omega arith)) in
    ap (λ (l : List ℕ). decoded (take (suc (suc k)) l)) d ∙ rw (e, add-one p)

gate_decoded : (t : List ℕ) (p : ℕ) → p + gate_digits < length t → decoded (take gate_digits (drop p t)) ≡ gate_decoded_at t p
unfolding decoded
gate_decoded t p h =
    let e : p + 2 + 2 ≡ p + 4 = omega arith in
    decoded_two t p 4 (omega arith)
    ∙ ap (λ (l : List ℕ). byte_at t p ∷ l) (decoded_two t (p + 2) 2 (omega arith))
    ∙ ap (λ (q : ℕ). byte_at t p ∷ byte_at t (p + 2) ∷ decoded (take 2 (drop q t))) e
    ∙ ap (λ (l : List ℕ). byte_at t p ∷ byte_at t (p + 2) ∷ l) (decoded_two t (p + 4) 0 (omega arith))

module _ (t : List ℕ) (at : ℕ) where
  no_bytes : length t ≤ at → bytes_from t at ≡ []
  unfolding lines_decoded lines_of
  no_bytes h = rw (drop_of_length-le t h)

  bytes_step : first_formed gate_digits (lines_of (drop at t)) ≡ true
      → bytes_from t at ≡ gate_decoded_at t at ++ bytes_from t (at + gate_line_bytes)
  unfolding lines_decoded
  bytes_step e =
      ap lines_decoded (formed_lines t at gate_digits e)
      ∙ ap (λ (l : List ℕ). l ++ bytes_from t (at + gate_line_bytes)) (gate_decoded t at (formed_long t at gate_digits e))

-- ---- the loop over the gate lines, as chunks of so many bytes each

-- a part of what is lent, from `at` up to `end`, in which a call left these
pub part_placed : (was part these : List ℕ) (at end : ℕ) → part ≡ these → end ≡ at + length these
    → put_mid at (end - at) was part ≡ placed was at these
part_placed was part these at end is e =
    rw (is, Post-is at end was (omega arith), e) (sym (append_assoc (take at was) these _))

chunk_at : (n k i : ℕ) (t : List ℕ) → i < k → get_or (first_chunks n k t) i [] ≡ take n (drop (n * i) t)
chunk_at n zero i t h = absurd (omega arith)
chunk_at n (suc k) zero t h = rw (mul-zero n) refl
chunk_at n (suc k) (suc i) t h =
    let e : n + n * i ≡ n * suc i = omega arith in
    chunk_at n k i (drop n t) (omega arith) ∙ ap (take n) (drop-drop (n * i) n t ∙ ap (λ (m : ℕ). drop m t) e)

byte_of_chunk : (t : List ℕ) (n p j : ℕ) → j < n → get_or (take n (drop p t)) j 0 ≡ get_or t (p + j) 0
byte_of_chunk t n p j h = get_or-take n (drop p t) j 0 h ∙ get_or-drop p t j 0

gate_of_chunk : (t line : List ℕ) (p : ℕ) → line ≡ take gate_line_bytes (drop p t) → gate_decoded_at line 0 ≡ gate_decoded_at t p
gate_of_chunk t line p e =
    let at = byte_of_chunk t gate_line_bytes p in
    let third : p + 2 + 1 ≡ p + 3 = omega arith in
    let fifth : p + 4 + 1 ≡ p + 5 = omega arith in
    rw (e, third, fifth)
    (simp
    (at 0 (omega arith), at 1 (omega arith), at 2 (omega arith), at 3 (omega arith), at 4 (omega arith), at 5 (omega arith), add-zero))

-- the gate of chunk i
pub gate_of_line : (t : List ℕ) (i : ℕ) {chunks : List (List ℕ)} → chunks ≡ first_chunks gate_line_bytes (length t / gate_line_bytes) t
    → i < length t / gate_line_bytes → gate_decoded_at (get_or chunks i []) 0 ≡ gate_decoded_at t (gate_line_bytes * i)
gate_of_line t i e h =
    gate_of_chunk t _ (gate_line_bytes * i)
    (ap (λ (l : List (List ℕ)). get_or l i []) e ∙ chunk_at gate_line_bytes (length t / gate_line_bytes) i t h)

-- i gates are stored: what is left, stored behind them, gives all of it
pub record StoredTo (t was left : List ℕ) (i : ℕ) : Type 0 where
  pub long : length left ≡ length was
  pub few : i ≤ max_gates
  pub done : fault_from t (gate_line_bytes * i) i ≡ Done
  pub counted : gate_bytes * i + length (bytes_from t (gate_line_bytes * i)) ≡ length (bytes_from t 0)
  pub stored : sets left (gate_bytes * i) (bytes_from t (gate_line_bytes * i)) ≡ sets was 0 (bytes_from t 0)

pub none_stored : (t was : List ℕ) → fault_from t 0 0 ≡ Done → StoredTo t was was 0
none_stored t was d = record { long = refl; few = omega arith; done = d; counted = omega arith; stored = refl }

module _ {t was left : List ℕ} {i : ℕ} (s : StoredTo t was left i) where
  module _ (more : gate_line_bytes * i < length t) where
    formed : first_formed gate_digits (lines_of (drop (gate_line_bytes * i) t)) ≡ true
    formed = done_formed t (gate_line_bytes * i) i more s.done

    gate_there : gate_line_bytes * i + gate_digits < length t
    gate_there = formed_long t (gate_line_bytes * i) gate_digits formed

    -- there is room for its gate
    pub gate_fits : max_list_bytes ≤ length was → gate_bytes * i + gate_bytes ≤ length left
    gate_fits lent = omega (arith, s.long, done_few t (gate_line_bytes * i) i more s.done)

    next_line : gate_line_bytes * i + gate_line_bytes ≡ gate_line_bytes * (i + 1)
    next_line = omega arith

    step : bytes_from t (gate_line_bytes * i) ≡ gate_decoded_at t (gate_line_bytes * i) ++ bytes_from t (gate_line_bytes * (i + 1))
    step =
        bytes_step t (gate_line_bytes * i) formed
        ∙ ap (λ (p : ℕ). gate_decoded_at t (gate_line_bytes * i) ++ bytes_from t p) next_line

    pub gate_stored : {left' : List ℕ} → max_list_bytes ≤ length was
        → left' ≡ placed left (gate_bytes * i) (gate_decoded_at t (gate_line_bytes * i)) → StoredTo t was left' (i + 1)
    gate_stored {left'} lent is =
        let e = is ∙ sym (sets_placed left (gate_bytes * i) (gate_decoded_at t (gate_line_bytes * i)) (gate_fits lent)) in
        record {
          long = ap length e ∙ length-sets left (gate_bytes * i) (gate_decoded_at t (gate_line_bytes * i)) ∙ s.long;
          few = omega (arith, done_few t (gate_line_bytes * i) i more s.done);
          done = rw next_line at (done_next t (gate_line_bytes * i) i more s.done);
          counted = omega (arith, s.counted, ap length step);
          stored =
              ap (λ (l : List ℕ). sets l (gate_bytes * (i + 1)) (bytes_from t (gate_line_bytes * (i + 1)))) e
              ∙ sets_append left (gate_decoded_at t (gate_line_bytes * i)) (bytes_from t (gate_line_bytes * (i + 1))) (gate_bytes * i)
              (gate_bytes * (i + 1)) (omega arith)
              ∙ ap (sets left (gate_bytes * i)) (sym step)
              ∙ s.stored;
        }

  -- no line is left
  pub all_stored : {m : ℕ} → m ≡ length t / gate_line_bytes → i ≤ m → m ≤ i → max_list_bytes ≤ length was
      → Stores was (bytes_from t 0) left m
  all_stored {m} e h k lent = go (dec_lt (gate_line_bytes * i) (length t))
    where
      go : Dec (gate_line_bytes * i < length t) → Stores was (bytes_from t 0) left m
      go (yes more) = absurd (omega (arith, gate_there more))
      go (no none) =
          let same : m ≡ i = omega arith in
          let end = no_bytes t (gate_line_bytes * i) (omega arith) in
          let all : gate_bytes * i ≡ length (bytes_from t 0) = omega (arith, s.counted, ap length end) in
          record {
            counted = rw same all;
            stored = (rw end at s.stored) ∙ sets_placed was 0 (bytes_from t 0) (omega (arith, s.few));
          }
