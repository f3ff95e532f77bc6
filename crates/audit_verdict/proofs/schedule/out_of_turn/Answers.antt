use Rattle.std.proofs.Common.{arith}
use Rattle.run_claims.specs.Turns.{AreInTurn}
use Rattle.audit_verdict.specs.declared.clause.Clause.TheVariants as clause
use Rattle.audit_verdict.proofs.Clauses.{timed_before}
use Rattle.audit_verdict.proofs.Decided.{decided, inside_log}
use Rattle.audit_frame.proofs.Rises.{lines_rise}
use Rattle.audit_verdict.proofs.schedule.out_of_turn.Goals as goal

pub first_out_of_turn-requires : goal.first_out_of_turn-requires
first_out_of_turn-requires c = lines_rise c.args.kept.now c.args.log.now c.requires.told

pub logged-requires : goal.logged-requires
logged-requires c = inside_log (AreInTurn c.args.kept.now.course.plan.params) c.args.log.now c.in_ok-found.found c.in_ok-found.ensures

pub returns : goal.returns
returns c =
    let k = c.args.kept.now in
    let timed = timed_before k clause.VisitsInOrder c.requires.before (omega arith) in
    decided k (AreInTurn k.course.plan.params) _ c.in_ok-found.found c.logged.result c.requires.told
    c.in_ok-found.ensures
    (c.logged.ensures k c.requires.told timed)
