-- The cells of a move say which move it is; and what a log keeps when more is written to it.
use mathlib.Core.List.{List, [], ◌++◌, ◌∷◌, append_assoc}
use mathlib.Core.Logic.{◌↔◌}
use mathlib.Core.Path.{◌∙◌, ◌≡◌, ap, ap₂, refl, sym}
use Prim.Native.Nat.{◌*◌, ◌+◌, ◌-◌, ◌<◌, ◌≤◌, suc, zero, ℕ}
use native.Mathlib.Decide.{dec_lt}
use native.Mathlib.Omega.{arith}
use lib.ListN.{drop, get_or, length, length-append, length-drop, length-replicate, replicate, set, take, take-append-drop}
use lib.Seq.{drop_at, ext_get_or, get_or-append-add, get_or-drop, length-take-le, set-append_seam, take-append_seam, take_at, take-take}
use borrow.Author.Tests.{le-leb, lt-leb}
use Rattle.circuit.specs.Lent.{placed}
use Rattle.circuit.specs.Limits.{move_head}
use Rattle.gf2.proofs.Table.{drop-take, get_or-zeros}
use Rattle.moves.specs.Log.{LegalCells, MoveForm, as_cells, logged, move_at, set_of, z_of}
use Rattle.moves.specs.Move.{Legal}

-- ---- the cells of a move

module _ (most z : ℕ) (Y : List ℕ) where
  pub cells_z : get_or (as_cells most z Y) 0 0 ≡ z
  unfolding as_cells
  cells_z = refl

  pub cells_count : get_or (as_cells most z Y) 1 0 ≡ length Y
  unfolding as_cells
  cells_count = refl

  pub cells_set : take (length Y) (drop move_head (as_cells most z Y)) ≡ Y
  unfolding as_cells
  cells_set = take-append_seam Y (replicate (most - length Y) 0)

  pub cells_length : length Y ≤ most → length (as_cells most z Y) ≡ most + move_head
  unfolding as_cells
  cells_length h = omega (arith, length-append Y (replicate (most - length Y) 0), length-replicate {A = ℕ} (most - length Y) 0)

  -- zeros after Y
  pub cells_rest : (i : ℕ) → length Y + move_head ≤ i → get_or (as_cells most z Y) i 0 ≡ 0
  unfolding as_cells
  cells_rest i h =
      let j : ℕ = i - (length Y + move_head) in
      let e : i ≡ suc (suc (length Y + j)) = omega arith in
      rw e (get_or-append-add Y (replicate (most - length Y) 0) j 0 ∙ get_or-zeros (most - length Y) j)

-- for code that writes them: no Y yet, and one number more
pub cells_none : (most z : ℕ) → as_cells most z [] ≡ z ∷ 0 ∷ replicate most 0
unfolding as_cells
cells_none most z = let e : most - 0 ≡ most = omega arith in rw e

pub cells_more : (most z : ℕ) (Y : List ℕ) (y : ℕ) → length Y < most
    → set (set (as_cells most z Y) (length Y + move_head) y) 1 (length Y + 1) ≡ as_cells most z (Y ++ (y ∷ []))
unfolding as_cells
cells_more most z Y y h =
    let d : ℕ = most - suc (length Y) in
    let e : most - length Y ≡ suc d = omega arith in
    let place : length Y + move_head ≡ suc (suc (length Y)) = omega arith in
    let more : length (Y ++ (y ∷ [])) ≡ length Y + 1 = length-append Y (y ∷ []) in
    let left : most - (length Y + 1) ≡ d = omega arith in
    rw (e, place, more, left, set-append_seam Y 0 (replicate d 0) y, append_assoc Y (y ∷ []) (replicate d 0))

-- the cells of a move say that move
pub cells_say : (most z : ℕ) (Y cells : List ℕ) → cells ≡ as_cells most z Y → (z_of cells ≡ z) × (set_of cells ≡ Y)
cells_say most z Y cells e = (
  ap z_of e ∙ cells_z most z Y,
  ap set_of e ∙ ap (λ (c : ℕ). take c (drop move_head (as_cells most z Y))) (cells_count most z Y) ∙ cells_set most z Y,
)

-- and no other
pub cells_unique : (most z z' : ℕ) (Y Y' : List ℕ) → as_cells most z Y ≡ as_cells most z' Y' → (z ≡ z') × (Y ≡ Y')
cells_unique most z z' Y Y' e =
    let s = cells_say most z Y (as_cells most z Y) refl in
    let t = cells_say most z' Y' (as_cells most z Y) e in
    (sym s.0 ∙ t.0, sym s.1 ∙ t.1)

-- cells with a count that fits and zeros after the set are those of the move that they say
pub said_cells : (most : ℕ) (cells : List ℕ) → MoveForm most cells → cells ≡ as_cells most (z_of cells) (set_of cells)
unfolding as_cells
said_cells most [] form = absurd (omega (arith, form.long))
said_cells most (z ∷ []) form = absurd (omega (arith, form.long))
said_cells most (z ∷ c ∷ rest) form =
    rw (length-take-le c rest (omega (arith, form.long, form.few)))
    (ap (λ (r : List ℕ). z ∷ c ∷ r) (sym (take-append-drop c rest) ∙ ap (λ (r : List ℕ). take c rest ++ r) left))
  where
    left : drop c rest ≡ replicate (most - c) 0
    left =
        ext_get_or 0 (drop c rest) (replicate (most - c) 0) (omega (arith, length-drop c rest, length-replicate {A = ℕ} (most - c) 0))
        (λ i l. get_or-drop c rest i 0 ∙ form.zeros (suc (suc (c + i))) (omega arith) (omega (arith, length-drop c rest))
        ∙ sym (get_or-zeros (most - c) i))

-- cells are a legal move exactly if they have the form of one and the move that they say is legal: code can look at these
pub cells_checked : (most n : ℕ) (marks cells : List ℕ)
    → LegalCells most n marks cells ↔ (MoveForm most cells × Legal most n marks (z_of cells) (set_of cells))
cells_checked most n marks cells = (
  λ f. let s = cells_say most f.z f.Y cells f.is in
      let c : get_or cells 1 0 ≡ length f.Y = ap (λ (b : List ℕ). get_or b 1 0) f.is ∙ cells_count most f.z f.Y in (
        record {
          long = ap length f.is ∙ cells_length most f.z f.Y f.legal.few;
          few = omega (arith, f.legal.few);
          zeros = λ i l h. ap (λ (b : List ℕ). get_or b i 0) f.is ∙ cells_rest most f.z f.Y i (omega arith);
        },
        rw (s.0, s.1) f.legal,
      ),
  λ h. record { z = z_of cells; Y = set_of cells; is = said_cells most cells h.0; legal = h.1 },
)

-- ---- a log

module _ (size : ℕ) (log : List ℕ) (k : ℕ) where
  -- empty if the log has fewer cells
  pub move_short : length log < size * k + size → move_at size log k ≡ []
  unfolding move_at
  move_short h = simp (lt-leb (size * k + size) (length log) h)

  pub move_whole : size * k + size ≤ length log → move_at size log k ≡ take size (drop (size * k) log)
  unfolding move_at
  move_whole h = simp (le-leb (size * k + size) (length log) h)

-- logs that agree up to move k have the same move k
pub move_same : (size k : ℕ) (log log' : List ℕ) → length log ≡ length log' → take (size * k + size) log ≡ take (size * k + size) log'
    → move_at size log k ≡ move_at size log' k
move_same size k log log' e same = go (dec_lt (length log) (size * k + size))
  where
    go : Dec (length log < size * k + size) → move_at size log k ≡ move_at size log' k
    go (yes l) = move_short size log k l ∙ sym (move_short size log' k (rw (← e) l))
    go (no g) =
        move_whole size log k (omega arith) ∙ sym (drop-take (size * k) size log) ∙ ap (drop (size * k)) same
        ∙ sym (move_whole size log' k (omega arith) ∙ sym (drop-take (size * k) size log'))

pub logged_same : (size m : ℕ) (log log' : List ℕ) → length log ≡ length log' → take (size * m) log ≡ take (size * m) log'
    → logged size log m ≡ logged size log' m
unfolding logged
logged_same size zero log log' e same = refl
logged_same size (suc m) log log' e same =
    ap₂ (λ (fs : List (List ℕ)) (f : List ℕ). fs ++ (f ∷ []))
    (logged_same size m log log' e
    (sym (take-take (size * m) (size * suc m) log (omega arith)) ∙ ap (take (size * m)) same
    ∙ take-take (size * m) (size * suc m) log' (omega arith)))
    (move_same size m log log' e (rw next at same))
  where
    next : size * suc m ≡ size * m + size
    next = omega arith

pub logged_length : (size m : ℕ) (log : List ℕ) → length (logged size log m) ≡ m
unfolding logged
logged_length size zero log = refl
logged_length size (suc m) log = omega (arith, length-append (logged size log m) (move_at size log m ∷ []), logged_length size m log)

-- one more move, written after m
pub logged_more : (size m : ℕ) (log cells : List ℕ) → length cells ≡ size → size * m + size ≤ length log
    → logged size (placed log (size * m) cells) (suc m) ≡ logged size log m ++ (cells ∷ [])
unfolding logged
logged_more size m log cells len room =
    let j : ℕ = size * m in
    let after : List ℕ = drop (j + length cells) log in
    let new : List ℕ = take j log ++ cells ++ after in
    let front : length (take j log) ≡ j = length-take-le j log (omega arith) in
    let long : length new ≡ length log =
    omega (arith, length-append (take j log ++ cells) after, length-append (take j log) cells, length-drop (j + length cells) log) in
    ap₂ (λ (fs : List (List ℕ)) (f : List ℕ). fs ++ (f ∷ []))
    (logged_same size m new log long (ap (take j) (append_assoc (take j log) cells after) ∙ take_at (take j log) (cells ++ after) j front))
    (move_whole size new m (omega arith)
    ∙ ap (take size) (ap (drop j) (append_assoc (take j log) cells after) ∙ drop_at (take j log) (cells ++ after) j front)
    ∙ take_at cells after size len)

-- what is logged after the first k moves starts with move k
pub logged_later : (size : ℕ) (log : List ℕ) (k d : ℕ)
    → (later : List (List ℕ)) × (logged size log (k + suc d) ≡ logged size log k ++ (move_at size log k ∷ later))
unfolding logged
logged_later size log k zero = let e : k + 1 ≡ suc k = omega arith in ([], rw e)
logged_later size log k (suc d) =
    let e : k + suc (suc d) ≡ suc (k + suc d) = omega arith in
    let last : List (List ℕ) = move_at size log (k + suc d) ∷ [] in
    let t = logged_later size log k d in (
      t.0 ++ last,
      rw (e, t.1) (append_assoc (logged size log k) (move_at size log k ∷ t.0) last),
    )
