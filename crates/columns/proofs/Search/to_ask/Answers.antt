-- No turn is asked where z is no xor of two members or all columns are apart; else all are.
use Rattle.columns.proofs.Apart.{ask_none, legal_pair}
use Rattle.columns.proofs.Search.to_ask.Goals as goal
use Rattle.columns.proofs.Search.to_ask.Goals.{then-not-has_pair-via-else-not-has_pair+then-all_apart}
use Rattle.columns.proofs.Search.to_ask.Goals.{then-not-has_pair-via-then-not-has_pair}

pub returns-then-not-has_pair-clause-asked : goal.returns-then-not-has_pair-clause-asked
returns-then-not-has_pair-clause-asked c =
    elim c.then-not-has_pair.branch [
      | then-not-has_pair-via-then-not-has_pair w ↦ ask_none (legal_pair (c.has_pair.ensures.1 w.if-not-has_pair.true))
      | then-not-has_pair-via-else-not-has_pair+then-all_apart w ↦ ask_none (w.all_apart.ensures.apart w.if-all_apart.true)
    ]
