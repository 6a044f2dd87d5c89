-- An accepted circuit with outputs that are long enough may be trimmed.
use borrow.Author.Rules.{rules}
use Rattle.trimmer.proofs.TrimWays.{may_trim}
use Rattle.trimmer.proofs.trim.Goals as goal

pub trim_accepted-requires : goal.trim_accepted-requires
trim_accepted-requires c =
    let may = may_trim {n = c.args.n} {g = c.args.gates.now} {out = c.args.out.now} {log = c.args.log.now} (search rules) in
    record { some = rw c.in_ok-list.ensures.same.0 may.accepted.some; out_room = may.out_room; log_room = may.log_room }
