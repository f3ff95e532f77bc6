use Rattle.std.proofs.Common.{◌≡◌, ◌+◌, ◌-◌, map}
use Rattle.std.specs.List.{range_with_len}
use Rattle.run_report.specs.Outcomes.{piece_sent, all_there}
use Rattle.run_report.proofs.Came.{with_rest}
use Rattle.run_report.proofs.found.pieces_sent.Given as goal

-- what was found so far and what is left are all
abbrev pub invariant-loop-k : goal.invariant-loop-k
invariant-loop-k l =
    with_rest (piece_sent l.index.course.plan.params l.index.journals l.v.0 l.visit) l.sent l.k (l.index.course.plan.params.pieces + 1 - l.k)
    ≡ all_there (map (piece_sent l.index.course.plan.params l.index.journals l.v.0 l.visit) (range_with_len 1 l.index.course.plan.params.pieces))
