-- Superset sums in place: one law for the start, the turn and the end of each loop.
use mathlib.Core.List.{List}
use mathlib.Core.Logic.{inl, inr, ◌⊎◌}
use mathlib.Core.Path.{ap, refl, sym, ◌∙◌, ◌≡◌}
use Prim.Native.Nat.{◌%◌, ◌*◌, ◌+◌, ◌-◌, ◌/◌, ◌<◌, ◌^◌, suc, ℕ, ◌≤◌}
use native.Mathlib.Decide.{dec_lt}
use native.Mathlib.Nat.{add-zero, div-mul-le_self, mod-eq_of_lt, mul-div_left, mul-le-mul_right}
use native.Mathlib.Numerals.{add-one}
use native.Mathlib.Omega.{arith}
use lib.ListN.{drop, get_or-eq_default, length, take}
use lib.Pow.{pow-add}
use borrow.Rule.Slice.PartMut.{put_mid, same_len_mid}
use Rattle.std.proofs.lemmas.List.{places}
use Rattle.circuit.specs.Sound.{weight}
use Rattle.gf2.proofs.Bit.{bit-lt, bit-values, bit-zero}
use Rattle.gf2.proofs.Blocks.{bit_up}
use Rattle.gf2.proofs.Superset.{superset-free, superset-none, superset-set, with_bit}
use Rattle.gf2.specs.Bit.{bit}
use Rattle.gf2.specs.Over.{Below}
use Rattle.gf2.specs.Superset.{superset}
use Rattle.sums.specs.Summing.{Added, InBlocks, SumsTo, WireAdded}

-- ---- one block

-- what was done to a block, lent from `start` on, was done to the numbers that it stands among
block_added : {start h : ℕ} {s block : List ℕ} → start + 2 * h ≤ length s → Added 0 h h (take (2 * h) (drop start s)) block
    → Added start (start + h) h s (put_mid start (2 * h) s block)
block_added {start} {h} {s} {block} fits a =
    record {
      as_long = same_len_mid start (2 * h) s block a.as_long;
      added = λ p l g. added p (p - start) (omega arith) (omega arith);
      under = λ p l. grind (arith, places);
      onward = λ p l. onward p l (dec_lt p (start + 2 * h));
    }
  where
    long : length block ≡ 2 * h
    long = a.as_long ∙ grind (arith, places)

    inside : (q : ℕ) → q < 2 * h → weight (put_mid start (2 * h) s block) (start + q) ≡ weight block q
    inside q g = grind (arith, places)

    stood : (q : ℕ) → q < 2 * h → weight (take (2 * h) (drop start s)) q ≡ weight s (start + q)
    stood q g = grind (arith, places)

    added : (p q : ℕ) → p ≡ start + q → q < h → weight (put_mid start (2 * h) s block) p ≡ (weight s p + weight s (p + h)) % 8
    added p q e g =
        let f : start + q + h ≡ start + (q + h) = omega arith in
        rw (e, f) (inside q (omega arith) ∙ a.added q (omega arith) g ∙ rw (stood q (omega arith), stood (q + h) (omega arith)))

    onward : (p : ℕ) → start + h ≤ p → Dec (p < start + 2 * h) → weight (put_mid start (2 * h) s block) p ≡ weight s p
    onward p l (yes g) =
        let q : ℕ = p - start in
        let e : p ≡ start + q = omega arith in
        rw e (inside q (omega arith) ∙ a.onward q (omega arith) ∙ stood q (omega arith))
    onward p l (no g) = grind (arith, places)

-- ---- one wire, block by block

-- block b for wire i starts at b * (2 * 2 ^ i); its first half is without the wire, its second half has it
block_half : (b i p c : ℕ) → c < 2 → (2 * b + c) * 2 ^ i ≤ p → p < (2 * b + c) * 2 ^ i + 2 ^ i → bit p i ≡ c
block_half b i p c h l g =
    let hi : ℕ = 2 * b + c in
    let lo : ℕ = p - hi * 2 ^ i in
    let e : p ≡ hi * 2 ^ i + lo = omega arith in
    ap (λ (x : ℕ). bit x i) e ∙ ap (bit (hi * 2 ^ i + lo)) (sym (add-zero i)) ∙ bit_up hi i lo 0 (omega arith) ∙ bit-zero hi ∙ omega arith

block_without : (b i p : ℕ) → b * (2 * 2 ^ i) ≤ p → p < b * (2 * 2 ^ i) + 2 ^ i → bit p i ≡ 0
block_without b i p l g = block_half b i p 0 (omega arith) (omega arith) (omega arith)

block_having : (b i p : ℕ) → b * (2 * 2 ^ i) + 2 ^ i ≤ p → p < b * (2 * 2 ^ i) + 2 * 2 ^ i → bit p i ≡ 1
block_having b i p l g = block_half b i p 1 (omega arith) (omega arith) (omega arith)

-- blocks of k that are there are whole; and where there are whole blocks alone, they are all
block_whole : (b k l : ℕ) → b < l / k → b * k + k ≤ l
block_whole b k l h =
    let below : b + 1 ≤ l / k = omega arith in
    omega (arith, mul-le-mul_right k below, div-mul-le_self l k)

pub blocks_all : (b m k l : ℕ) → 0 < k → l ≡ m * k → l / k ≤ b → l ≤ b * k
blocks_all b m k l h e g = omega (arith, mul-le-mul_right k (rw (e, mul-div_left m h) at g), e)

pub wire_next : {i start : ℕ} {s₀ s s' : List ℕ} (b : ℕ) → start ≡ b * (2 * 2 ^ i) → WireAdded i start s₀ s
    → Added start (start + 2 ^ i) (2 ^ i) s s' → WireAdded i (start + 2 * 2 ^ i) s₀ s'
wire_next {i} {start} {s₀} {s} {s'} b e w a =
    record {
      as_long = a.as_long ∙ w.as_long;
      without = λ p l z. without p l z (dec_lt p start) (dec_lt p (start + 2 ^ i));
      having = λ p z. having p z (dec_lt p start) (dec_lt p (start + 2 ^ i));
      onward = λ p l. a.onward p (omega arith) ∙ w.onward p (omega arith);
    }
  where
    without : (p : ℕ) → p < start + 2 * 2 ^ i → bit p i ≡ 0 → Dec (p < start) → Dec (p < start + 2 ^ i)
        → weight s' p ≡ (weight s₀ p + weight s₀ (p + 2 ^ i)) % 8
    without p l z (yes g) d = a.under p g ∙ w.without p g z
    without p l z (no g) (yes h) = a.added p (omega arith) h ∙ rw (w.onward p (omega arith), w.onward (p + 2 ^ i) (omega arith))
    without p l z (no g) (no h) = absurd (omega (arith, block_having b i p (omega arith) (omega arith)))

    having : (p : ℕ) → bit p i ≡ 1 → Dec (p < start) → Dec (p < start + 2 ^ i) → weight s' p ≡ weight s₀ p
    having p z (yes g) d = a.under p g ∙ w.having p z
    having p z (no g) (yes h) = absurd (omega (arith, block_without b i p (omega arith) (omega arith)))
    having p z (no g) (no h) = a.onward p (omega arith) ∙ w.having p z

-- block b, lent from `start` on with k numbers, comes back with its half h added
pub block_next : {i start k h : ℕ} {s₀ s block : List ℕ} (b : ℕ) → h ≡ 2 ^ i → start ≡ b * (2 * 2 ^ i) → k ≡ 2 * 2 ^ i
    → b < length s / (2 * 2 ^ i) → WireAdded i (b * (2 * 2 ^ i)) s₀ s → Added 0 h h (take k (drop start s)) block
    → WireAdded i ((b + 1) * (2 * 2 ^ i)) s₀ (put_mid start k s block)
block_next {i} {start} {k} {h} {s₀} {s} {block} b half at long there w a =
    let more : (b + 1) * (2 * 2 ^ i) ≡ b * (2 * 2 ^ i) + 2 * 2 ^ i = omega arith in
    rw (at, long, more) (wire_next b refl w (block_added (block_whole b (2 * 2 ^ i) (length s) there) (rw (half, at, long) at a)))

pub wire_end : {i end : ℕ} {s₀ s : List ℕ} → WireAdded i end s₀ s → length s ≤ end → WireAdded i (length s₀) s₀ s
wire_end {i} {end} {s₀} {s} w l =
    record {
      as_long = w.as_long;
      without = λ p g. w.without p (omega (arith, w.as_long));
      having = w.having;
      onward = λ p g. get_or-eq_default s 0 (past p g) ∙ sym (get_or-eq_default s₀ 0 g);
    }
  where
    past : (p : ℕ) → length s₀ ≤ p → length s ≤ p
    past p g = omega (arith, w.as_long)

-- ---- all wires

pub sums_start : (s : List ℕ) → Below 8 s → SumsTo 0 s s
sums_start s b =
    record { as_long = refl; sums = λ p l. sym (ap (λ (t : ℕ). t % 8) (superset-none (weight s) p) ∙ mod-eq_of_lt (b p l)) }

-- 2 ^ n numbers are in blocks for each of n wires
pub in_blocks : {i n : ℕ} {s₀ s : List ℕ} → SumsTo i s₀ s → length s₀ ≡ 2 ^ n → i < n → InBlocks i s
in_blocks {i} {n} {s₀} {s} t e h =
    record {
      blocks = 2 ^ d;
      long = t.as_long ∙ e ∙ ap (λ (k : ℕ). 2 ^ k) f ∙ pow-add 2 d (suc i) ∙ ap (λ (k : ℕ). 2 ^ d * k) twice;
      small = λ p l. omega (arith, t.sums p (omega (arith, t.as_long)));
    }
  where
    d : ℕ
    d = n - suc i

    f : n ≡ d + suc i
    f = omega arith

    twice : 2 ^ suc i ≡ 2 * 2 ^ i
    twice = omega arith

pub sums_next : {i n : ℕ} {s₀ s s' : List ℕ} → SumsTo i s₀ s → length s₀ ≡ 2 ^ n → i < n → WireAdded i (length s) s s'
    → SumsTo (i + 1) s₀ s'
sums_next {i} {n} {s₀} {s} {s'} t e h w =
    record { as_long = w.as_long ∙ t.as_long; sums = λ p l. rw (add-one i) (go p l (bit-values (bit p i) (bit-lt p i))) }
  where
    both : (a b : ℕ) → (a % 8 + b % 8) % 8 ≡ (a + b) % 8
    both a b = omega arith

    go : (p : ℕ) → p < length s₀ → (bit p i ≡ 0) ⊎ (bit p i ≡ 1) → weight s' p ≡ superset (suc i) (weight s₀) p % 8
    go p l (inl z) =
        w.without p (omega (arith, t.as_long)) z
        ∙ rw (t.sums p l, t.sums (p + 2 ^ i) (rw e (with_bit n p i h (rw e at l) z)), superset-free i (weight s₀) p z)
        (both (superset i (weight s₀) p) (superset i (weight s₀) (p + 2 ^ i)))
    go p l (inr z) = w.having p z ∙ t.sums p l ∙ ap (λ (x : ℕ). x % 8) (sym (superset-set i (weight s₀) p z))
