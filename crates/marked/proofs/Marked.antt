-- The marked cases hold, all of them, by computing the definitions.
use lib.Count.{ones, count_trailing_zeros}
use lib.Dec.{T}
use Rattle.circuit.specs.Faults.{first_fault, gate_fault}
use Rattle.circuit.specs.Gate.{is_t, kind_of, t_gates}
use Rattle.circuit.specs.OddSet.{member_count, odd_set}
use Rattle.circuit.specs.Read.{first_rows, no_weights, read_from, read_kind}
use Rattle.gf2.specs.Bit.{bit}
use Rattle.gf2.specs.Every.{any, every}
use Rattle.gf2.specs.Over.{sum_over, xor_all}
use Rattle.gf2.specs.Selection.{combine}
use Rattle.gf2.specs.Sum.{delta, sum}
use Rattle.gf2.specs.Table.{tabulate, weighted_sum}
use Rattle.moves.specs.CarryOut.{carry_out, flip_if, flip_pairs}
use Rattle.moves.specs.Decide.{is_legal, same_cells}
use Rattle.phase.specs.Coefficients.{c, l, q}
use Rattle.phase.specs.NewWeights.{by_wires, new_weights, one_rest, pad, pair_rest, rest}
use Rattle.marked.proofs.Testing.{all_claimed, all_c, all_hold, all_l, all_q, are_none, holds, is_nothing, is_refusal}
use Rattle.marked.specs.Cases.{AllClaimed, cases, ones_to, rows_with, weights_with}

computed : T (all_hold cases)
unfolding cases all_hold holds is_refusal is_nothing are_none ones_to rows_with weights_with all_l all_q all_c same_cells first_fault
    gate_fault
    read_from read_kind kind_of first_rows no_weights t_gates is_t odd_set member_count l q c is_legal every any carry_out flip_pairs
    flip_if
    new_weights pad rest by_wires one_rest pair_rest tabulate weighted_sum combine sum sum_over xor_all delta bit ones count_trailing_zeros
computed = tt

pub marked : AllClaimed cases
marked = all_claimed cases computed
