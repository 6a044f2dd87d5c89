-- Logged moves carried out in order: the marks stay sound, the signature stays, and every move takes at least one member. A log leads to
-- marks without a legal move by one number of its moves.
use mathlib.Core.List.{List, [], ◌++◌, ◌∷◌}
use mathlib.Core.Path.{◌∙◌, ◌≡◌, ap, refl, subst, sym}
use Prim.Native.Nat.{◌*◌, ◌+◌, ◌-◌, ◌<◌, ◌^◌, ◌≤◌, suc, zero, ℕ}
use native.Mathlib.Decide.{dec_lt}
use native.Mathlib.Omega.{arith}
use lib.ListN.{length}
use Rattle.circuit.specs.OddSet.{member_count}
use Rattle.circuit.specs.Sound.{SoundMarks}
use Rattle.phase.specs.Signature.{SameSignature}
use Rattle.moves.proofs.Keep.{keeps, sound_kept}
use Rattle.moves.proofs.Logs.{cells_say, cells_unique, logged_later, move_short}
use Rattle.moves.proofs.Shrink.{shrinks}
use Rattle.moves.specs.CarryOut.{carry_out}
use Rattle.moves.specs.Log.{LegalCells, SmallestCells, as_cells, logged, move_at, set_of, z_of}
use Rattle.moves.specs.Move.{NoneBelow, NoneLegal}
use Rattle.moves.specs.Replay.{Replays, SmallestEach}

pub signature_same : (n : ℕ) (w : List ℕ) → SameSignature n w w
signature_same n w = record { l2 = λ i h. refl; q2 = λ i j h g. refl; c2 = λ i j k h g f. refl }

pub signature_trans : (n : ℕ) (u v w : List ℕ) → SameSignature n u v → SameSignature n v w → SameSignature n u w
signature_trans n u v w s t =
    record {
      l2 = λ i h. s.l2 i h ∙ t.l2 i h;
      q2 = λ i j h g. s.q2 i j h g ∙ t.q2 i j h g;
      c2 = λ i j k h g f. s.c2 i j k h g f ∙ t.c2 i j k h g f;
    }

-- ---- a log that grows

pub replays_none : (most n : ℕ) (m : List ℕ) → Replays most n m [] m
unfolding Replays
replays_none most n m = refl

-- one more move, legal on the marks that the last one left
pub replays_more : (most n : ℕ) (m : List ℕ) (moves : List (List ℕ)) (m' cells : List ℕ) (f : LegalCells most n m' cells)
    → Replays most n m moves m' → Replays most n m (moves ++ (cells ∷ [])) (carry_out m' f.z f.Y)
unfolding Replays
replays_more most n m [] m' cells f e = subst (λ (x : List ℕ). Replays most n x (cells ∷ []) (carry_out m' f.z f.Y)) (sym e) (f, refl)
replays_more most n m (g ∷ moves) m' cells f r = (r.0, replays_more most n (carry_out m r.0.z r.0.Y) moves m' cells f r.1)

-- ---- each with the smallest z

pub smallest_none : (most n : ℕ) (m : List ℕ) → SmallestEach most n m []
unfolding SmallestEach
smallest_none most n m = tt

pub smallest_more : (most n : ℕ) (m : List ℕ) (moves : List (List ℕ)) (m' cells : List ℕ) → Replays most n m moves m'
    → NoneBelow most n m' (z_of cells) → SmallestEach most n m moves → SmallestEach most n m (moves ++ (cells ∷ []))
unfolding Replays SmallestEach
smallest_more most n m [] m' cells e least s = (subst (λ (x : List ℕ). NoneBelow most n x (z_of cells)) (sym e) least, tt)
smallest_more most n m (g ∷ moves) m' cells r least s =
    let f : LegalCells most n m g = r.0 in
    let t = cells_say most f.z f.Y g f.is in
    let next : Replays most n (carry_out m (z_of g) (set_of g)) moves m' = rw (t.0, t.1) r.1 in
    (s.0, smallest_more most n (carry_out m (z_of g) (set_of g)) moves m' cells next least s.1)

-- for the same marks the smallest z is one
pub smallest_one_z : (most n : ℕ) (m cells cells' : List ℕ) → SmallestCells most n m cells → SmallestCells most n m cells'
    → z_of cells ≡ z_of cells'
smallest_one_z most n m cells cells' s s' =
    let f : LegalCells most n m cells = s.legal in
    let g : LegalCells most n m cells' = s'.legal in
    omega (
      arith,
      (cells_say most f.z f.Y cells f.is).0,
      (cells_say most g.z g.Y cells' g.is).0,
      s.smallest g.z g.Y g.legal,
      s'.smallest f.z f.Y f.legal,
    )

-- ---- what replaying does

module _ (size n most : ℕ) (room : 2 ^ n ≤ size) where
  pub replays_sound : (m : List ℕ) (moves : List (List ℕ)) (m' : List ℕ) → SoundMarks size n m → Replays most n m moves m'
      → SoundMarks size n m'
  unfolding Replays
  replays_sound m [] m' sound e = subst (λ (x : List ℕ). SoundMarks size n x) e sound
  replays_sound m (cells ∷ moves) m' sound r =
      let f : LegalCells most n m cells = r.0 in
      replays_sound (carry_out m f.z f.Y) moves m' (sound_kept size n most room m sound f.z f.Y f.legal) r.1

  pub replays_signature : (m : List ℕ) (moves : List (List ℕ)) (m' : List ℕ) → SoundMarks size n m → Replays most n m moves m'
      → SameSignature n m' m
  unfolding Replays
  replays_signature m [] m' sound e = subst (λ (x : List ℕ). SameSignature n x m) e (signature_same n m)
  replays_signature m (cells ∷ moves) m' sound r =
      let f : LegalCells most n m cells = r.0 in
      let next : List ℕ = carry_out m f.z f.Y in
      signature_trans n m' next m
      (replays_signature next moves m' (sound_kept size n most room m sound f.z f.Y f.legal) r.1)
      (keeps size n most room m sound f.z f.Y f.legal)

  pub replays_shrinks : (m : List ℕ) (moves : List (List ℕ)) (m' : List ℕ) → SoundMarks size n m → Replays most n m moves m'
      → length moves + member_count m' ≤ member_count m
  unfolding Replays
  replays_shrinks m [] m' sound e = omega (arith, ap member_count e)
  replays_shrinks m (cells ∷ moves) m' sound r =
      let f : LegalCells most n m cells = r.0 in
      omega (
        arith,
        replays_shrinks (carry_out m f.z f.Y) moves m' (sound_kept size n most room m sound f.z f.Y f.legal) r.1,
        shrinks size n most room m sound f.z f.Y f.legal,
      )

-- ---- where logged moves lead

module _ (most n : ℕ) where
  -- from the same marks the same moves leave the same marks
  pub replays_one_end : (m : List ℕ) (moves : List (List ℕ)) (a b : List ℕ) → Replays most n m moves a → Replays most n m moves b → a ≡ b
  unfolding Replays
  replays_one_end m [] a b r s = sym r ∙ s
  replays_one_end m (cells ∷ moves) a b r s =
      let f : LegalCells most n m cells = r.0 in
      let g : LegalCells most n m cells = s.0 in
      let same = cells_unique most f.z g.z f.Y g.Y (sym f.is ∙ g.is) in
      replays_one_end (carry_out m f.z f.Y) moves a b r.1 (rw (same.0, same.1) s.1)

  -- where the first moves lead, the next one is legal
  pub replays_next : (m : List ℕ) (moves : List (List ℕ)) (cells : List ℕ) (later : List (List ℕ)) (b : List ℕ)
      → Replays most n m (moves ++ (cells ∷ later)) b → (a : List ℕ) × Replays most n m moves a × LegalCells most n a cells
  unfolding Replays
  replays_next m [] cells later b r = (m, refl, r.0)
  replays_next m (f ∷ moves) cells later b r =
      let t = replays_next (carry_out m r.0.z r.0.Y) moves cells later b r.1 in
      (t.0, (r.0, t.1), t.2)

  -- from marks without a legal move no move is made, and they stay
  pub replays_stay : (m : List ℕ) (moves : List (List ℕ)) (m' : List ℕ) → NoneLegal most n m → Replays most n m moves m'
      → (length moves ≡ 0) × (m ≡ m')
  unfolding Replays
  replays_stay m [] m' none r = (refl, r)
  replays_stay m (cells ∷ moves) m' none r = let f : LegalCells most n m cells = r.0 in absurd (none f.z f.Y f.legal)

  module _ (size : ℕ) (log m : List ℕ) where
    -- a log that leads to marks without a legal move goes on no further
    ends_there : (k d : ℕ) (a b : List ℕ) → NoneLegal most n a → Replays most n m (logged size log k) a
        → Replays most n m (logged size log (k + suc d)) b → ⊥
    ends_there k d a b none r s =
        let later = logged_later size log k d in
        let t = replays_next m (logged size log k) (move_at size log k) later.0 b (rw later.1 at s) in
        let f : LegalCells most n t.0 (move_at size log k) = t.2 in
        none f.z f.Y (rw (replays_one_end m (logged size log k) t.0 a t.1 r) at f.legal)

    -- so it leads there by one number of its moves
    pub replays_one_number : (j k : ℕ) (a : List ℕ) → NoneLegal most n a → Replays most n m (logged size log j) a
        → Replays most n m (logged size log k) a → j ≡ k
    replays_one_number j k a none r s = go (dec_lt j k) (dec_lt k j)
      where
        later : (i l : ℕ) → i < l → Replays most n m (logged size log i) a → Replays most n m (logged size log l) a → ⊥
        later i l h p q = let e : l ≡ i + suc (l - suc i) = omega arith in ends_there i (l - suc i) a a none p (rw e at q)

        go : Dec (j < k) → Dec (k < j) → j ≡ k
        go (yes h) d = absurd (later j k h r s)
        go (no g) (yes h) = absurd (later k j h s r)
        go (no g) (no h) = omega arith

    -- and is long enough to hold them: a move that it has not whole is not legal
    pub replays_held : (k : ℕ) (a : List ℕ) → Replays most n m (logged size log k) a → size * k ≤ length log
    unfolding logged as_cells
    replays_held zero a r = omega arith
    replays_held (suc k) a r = go (dec_lt (length log) (size * k + size))
      where
        legal : (a : List ℕ) × Replays most n m (logged size log k) a × LegalCells most n a (move_at size log k)
        legal = replays_next m (logged size log k) (move_at size log k) [] a r

        go : Dec (length log < size * k + size) → size * suc k ≤ length log
        go (yes l) =
            let f : LegalCells most n legal.0 (move_at size log k) = legal.2 in
            absurd (omega (arith, ap length (sym (move_short size log k l) ∙ f.is)))
        go (no g) = omega arith
