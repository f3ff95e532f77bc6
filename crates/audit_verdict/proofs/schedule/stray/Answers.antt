use Rattle.std.proofs.Common.{arith}
use Rattle.audit_frame.proofs.Rises.{lines_rise}
use Rattle.audit_views.specs.Verdicts.{ArePartAndLocal}
use Rattle.audit_verdict.specs.declared.clause.Clause.TheVariants as clause
use Rattle.audit_verdict.proofs.Clauses.{timed_before}
use Rattle.audit_verdict.proofs.Decided.{inside_log, views_told}
use Rattle.audit_verdict.proofs.schedule.stray.Goals as goal

pub first_false_view-requires : goal.first_false_view-requires
first_false_view-requires c = lines_rise c.args.kept.now c.args.log.now c.requires.told

pub logged-requires : goal.logged-requires
logged-requires c = inside_log (ArePartAndLocal c.args.kept.now.course.plan.params) c.args.log.now c.in_ok-found.found c.in_ok-found.ensures

pub returns : goal.returns
returns c =
    let k = c.args.kept.now in
    let timed = timed_before k clause.PartViews c.requires.before (omega arith) in
    views_told k _ c.in_ok-found.found c.logged.result c.requires.told c.in_ok-found.ensures (c.logged.ensures k c.requires.told timed)
