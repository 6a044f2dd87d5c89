-- Demand 3, whole: one statement about C, D, the log and the counts. Its fields follow the demand's sentences, in its order; `smallest` is
-- document 02's 2.7.
use Rattle.std.specs.Prelude.{List, ◌≡◌, ◌*◌, ◌+◌, ◌/◌, ℕ, ◌≤◌, length}
use Rattle.circuit.specs.Faults.{AllWellFormed}
use Rattle.circuit.specs.Gate.{Gate, t_gates}
use Rattle.circuit.specs.Limits.{max_members, max_wires, move_cells, parities}
use Rattle.circuit.specs.OddSet.{member_count, odd_set}
use Rattle.circuit.specs.Read.{read}
use Rattle.circuit.specs.Run.{SameAction}
use Rattle.moves.specs.Log.{logged}
use Rattle.moves.specs.Move.{NoneLegal}
use Rattle.moves.specs.Replay.{Replays, SmallestEach}
use Rattle.phase.specs.NewWeights.{new_weights}
use Rattle.trimmed.specs.declared.Counts.{Counts}

-- the weights and the odd set of a list
abbrev pub weights_of : ℕ → List Gate → List ℕ
weights_of n gs = (read max_wires n gs).weights

abbrev pub odd_set_of : ℕ → List Gate → List ℕ
odd_set_of n gs = odd_set (weights_of n gs)

pub record Trimmed (n : ℕ) (C D : List Gate) (log : List ℕ) (counts : Counts) : Type 0 where
  -- D is a circuit on the same wires
  pub formed : AllWellFormed n D
  -- D sends each of the 2^n basis states to the same state with the same phase modulo 8 as C
  pub acts : SameAction n C D
  -- D holds exactly the reported number of T and T dagger gates
  pub t_out : counts.tout ≡ t_gates D
  -- one for each member of its odd set
  pub one_each : t_gates D ≡ member_count (odd_set_of n D)
  -- no more than C holds
  pub no_more : t_gates D ≤ t_gates C
  -- and no more than (n² + n)/2 + 1
  pub bound : t_gates D ≤ (n * n + n) / 2 + 1
  -- the logged moves in order, the first on C's odd set and each later one on what the one before left: each is legal on the marks it
  -- gets, and the marks after the last one, or C's odd set if there is none, are D's odd set
  pub replayed : Replays max_members n (odd_set_of n C) (logged move_cells log counts.moves) (odd_set_of n D)
  -- and no legal move on the marks that a move gets has a smaller z (document 02, 2.7)
  pub smallest : SmallestEach max_members n (odd_set_of n C) (logged move_cells log counts.moves)
  -- D's weights are document 01's new weights for C and that set
  pub weights : weights_of n D ≡ new_weights parities n (weights_of n C) (odd_set_of n D)
  -- no z and Y make a legal move from D's odd set
  pub finished : NoneLegal max_members n (odd_set_of n D)
  -- the reported number of moves is the log's: whenever its first m moves, each legal on the marks it gets, lead from C's odd set to D's,
  -- m is that number; and the log is long enough to hold them
  pub moves_logged : (m : ℕ) → Replays max_members n (odd_set_of n C) (logged move_cells log m) (odd_set_of n D) → m ≡ counts.moves
  pub log_holds : move_cells * counts.moves ≤ length log
  -- and the other reported counts are those of C and D
  pub t_in : counts.tin ≡ t_gates C
  pub odd_size : counts.odd ≡ member_count (odd_set_of n C)
  pub gates_written : counts.gates ≡ length D
  -- moves plus D's T and T dagger gates are at most the size of C's odd set
  pub afford : counts.moves + t_gates D ≤ member_count (odd_set_of n C)
