-- The laws of moves on one page, for every n: `size` is the number of marks, `most` the most that Y may have.
-- The proofs are in the modules named.
use mathlib.Core.List.{List, map}
use mathlib.Core.Logic.{◌↔◌}
use mathlib.Core.Path.{◌∙◌, ◌≡◌, refl, sym}
use Prim.Native.Nat.{◌*◌, ◌+◌, ◌/◌, ◌<◌, ◌^◌, ◌≤◌, ℕ}
use native.Mathlib.Omega.{arith}
use lib.Dec.{T}
use lib.ListN.{get_or, length}
use lib.Pow.{pow_mono}
use Rattle.circuit.specs.Limits.{max_members, max_wires, parities, product_bits}
use Rattle.circuit.specs.OddSet.{member_count}
use Rattle.circuit.specs.Sound.{SoundMarks, weight}
use Rattle.gf2.specs.Bit.{bit}
use Rattle.gf2.specs.Over.{Below, xor_all}
use Rattle.phase.specs.Signature.{SameSignature}
use Rattle.moves.proofs.Bound.{bound}
use Rattle.moves.proofs.Deciding.{move_decided}
use Rattle.moves.proofs.Differing.{differing-few}
use Rattle.moves.proofs.Keep.{keeps, sound_kept}
use Rattle.moves.proofs.Logs.{cells_unique, logged_length}
use Rattle.moves.proofs.OneXor.{balanced_iff, balanced_pairs}
use Rattle.moves.proofs.Pairs.{none_tagged}
use Rattle.moves.proofs.Products.{product-bit, product-by_bits, product_lt, tri_mono, tri_square}
use Rattle.moves.proofs.Replaying.{replays_held, replays_one_number, replays_shrinks, replays_signature, replays_stay}
use Rattle.moves.proofs.Replaying.{smallest_one_z}
use Rattle.moves.proofs.Shrink.{shrinks}
use Rattle.moves.proofs.Wires.{legal_wires}
use Rattle.moves.specs.CarryOut.{carry_out, differing}
use Rattle.moves.specs.Decide.{is_move}
use Rattle.moves.specs.Column.{bar_pairs, column}
use Rattle.moves.specs.Log.{LegalCells, SmallestCells, as_cells, logged, z_of}
use Rattle.moves.specs.Move.{Balanced, Legal, NoneLegal}
use Rattle.moves.specs.Pair.{Stands, pair_tag}
use Rattle.moves.specs.Product.{product, tri}
use Rattle.moves.specs.Replay.{Replays}

-- ---- document 01, "Signature": the product table

-- bit j(j+1)/2 + i of entry p is set when p names both i and j
pub entry_bit : (n p i j : ℕ) → i ≤ j → j < n → bit (product n p) (j * (j + 1) / 2 + i) ≡ bit p i * bit p j
unfolding tri
entry_bit n p i j h l = product-bit n p i j h l

-- and an entry has no other bits
pub entry_fits : (n p : ℕ) → product n p < 2 ^ tri n
entry_fits = product_lt

pub entry_by_bits : (n p x : ℕ) → x < 2 ^ tri n → ((i j : ℕ) → i ≤ j → j < n → bit x (tri j + i) ≡ bit p i * bit p j) → x ≡ product n p
entry_by_bits = product-by_bits

-- ---- document 01, "Legal moves": what a legal move does

module _ (size n most : ℕ) (room : 2 ^ n ≤ size) (marks : List ℕ) (sound : SoundMarks size n marks) where
  -- the signature stays
  pub move_keeps_signature : (z : ℕ) (Y : List ℕ) → Legal most n marks z Y → SameSignature n (carry_out marks z Y) marks
  move_keeps_signature = keeps size n most room marks sound

  pub move_leaves_sound : (z : ℕ) (Y : List ℕ) → Legal most n marks z Y → SoundMarks size n (carry_out marks z Y)
  move_leaves_sound = sound_kept size n most room marks sound

  -- the odd set shrinks by one at least
  pub move_shrinks : (z : ℕ) (Y : List ℕ) → Legal most n marks z Y → member_count (carry_out marks z Y) + 1 ≤ member_count marks
  move_shrinks = shrinks size n most room marks sound

  -- where no move is legal, at most (n² + n)/2 + 1 members are left
  pub none_legal_bound : tri n + 1 ≤ most → NoneLegal most n marks → member_count marks ≤ (n * n + n) / 2 + 1
  none_legal_bound enough none = rw (← (tri_square n)) (bound size n most marks sound enough none)

  -- on more wires the same moves are legal
  pub same_on_more_wires : (N z : ℕ) (Y : List ℕ) → n ≤ N → Legal most n marks z Y ↔ Legal most N marks z Y
  same_on_more_wires N z Y h = legal_wires size n N most marks h sound z Y

  -- ---- the finder, for one z with a wire t

  -- where columns that xor to 0 have tags that do, no move with this z is legal
  pub z_none : (z t : ℕ) → t < n → bit z t ≡ 1
      → ((W : List ℕ) → ((i : ℕ) → i < length W → Stands marks z t (get_or W i 0)) → xor_all (map (column n z t) W) ≡ 0
      → xor_all (map (pair_tag marks z) W) ≡ 0)
      → (Y : List ℕ) → Legal most n marks z Y → ⊥
  z_none z t l h closed Y legal = none_tagged size n most room marks sound z t l h Y legal closed

-- document 02, 2.4: at most two marks for each of Y differ after a move, and one more
pub move_differs_few : (marks : List ℕ) → weight marks 0 ≡ 0 → (z : ℕ) (Y : List ℕ)
    → differing marks (carry_out marks z Y) ≤ 2 * length Y + 1
move_differs_few marks none z Y = differing-few marks z Y none

-- the xor of Y is 0 and every triple condition holds, exactly where two xors are 0
pub two_xors : (n z t : ℕ) → t < n → bit z t ≡ 1 → (Y : List ℕ)
    → Balanced n z Y ↔ ((xor_all Y ≡ 0) × (xor_all (map (column n z t) Y) ≡ 0))
two_xors = balanced_iff

-- the same with the pairs of wires that the check of a move looks at
pub two_xors_of_pairs : (n z t : ℕ) → t < n → bit z t ≡ 1 → (Y : List ℕ) → z < 2 ^ n → Below (2 ^ n) Y
    → Balanced n z Y ↔ ((xor_all Y ≡ 0) × (xor_all (map (bar_pairs n z t) Y) ≡ 0))
two_xors_of_pairs = balanced_pairs

-- ---- moves as cells, and logs of them

-- legality of cells is decided by computing
pub legality_decided : (most n : ℕ) (marks cells : List ℕ) → T (is_move most n marks cells) ↔ LegalCells most n marks cells
legality_decided = move_decided

-- cells say one move
pub one_move : (most z z' : ℕ) (Y Y' : List ℕ) → as_cells most z Y ≡ as_cells most z' Y' → (z ≡ z') × (Y ≡ Y')
one_move = cells_unique

-- equal marks, equal z: of two moves with the smallest z for the same marks
pub equal_z : (most n : ℕ) (marks cells cells' : List ℕ) → SmallestCells most n marks cells → SmallestCells most n marks cells'
    → z_of cells ≡ z_of cells'
equal_z = smallest_one_z

-- carrying out logged moves keeps the signature, and every one takes a member at least
pub replay_keeps_signature : (size n most : ℕ) → 2 ^ n ≤ size → (m : List ℕ) (moves : List (List ℕ)) (m' : List ℕ) → SoundMarks size n m
    → Replays most n m moves m' → SameSignature n m' m
replay_keeps_signature = replays_signature

pub replay_shrinks : (size n most : ℕ) → 2 ^ n ≤ size → (m : List ℕ) (moves : List (List ℕ)) (m' : List ℕ) → SoundMarks size n m
    → Replays most n m moves m' → length moves + member_count m' ≤ member_count m
replay_shrinks = replays_shrinks

-- a log leads to marks without a legal move by one number of its moves, and is long enough to hold them
pub one_number : (most n size : ℕ) (log m : List ℕ) (j k : ℕ) (m' : List ℕ) → NoneLegal most n m'
    → Replays most n m (logged size log j) m' → Replays most n m (logged size log k) m' → j ≡ k
one_number = replays_one_number

pub log_holds : (most n size : ℕ) (log m : List ℕ) (k : ℕ) (m' : List ℕ) → Replays most n m (logged size log k) m' → size * k ≤ length log
log_holds = replays_held

-- from marks without a legal move a log makes none, and they stay (document 02, 2.2)
pub none_legal_stays : (most n size : ℕ) (log m : List ℕ) (k : ℕ) (m' : List ℕ) → NoneLegal most n m
    → Replays most n m (logged size log k) m' → (k ≡ 0) × (m ≡ m')
none_legal_stays most n size log m k m' none r =
    let s = replays_stay most n m (logged size log k) m' none r in
    (sym (logged_length size k log) ∙ s.0, s.1)

-- ---- the limits

-- the marks have room, Y may have as many members as the bound's proof needs, and an entry has product_bits bits
pub limits_suffice : (n : ℕ) → n ≤ max_wires → (2 ^ n ≤ parities) × (tri n + 1 ≤ max_members) × (tri max_wires ≡ product_bits)
unfolding tri
limits_suffice n h = (pow_mono {i = n} {j = max_wires} h, few, refl)
  where
    few : n * (n + 1) / 2 + 1 ≤ max_members
    few = omega (arith, tri_mono n max_wires h)
