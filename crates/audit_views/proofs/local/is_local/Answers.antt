use Rattle.audit_frame.specs.Lines.{noted_line}
use Rattle.audit_views.proofs.Bringing.{cub_judged, other_judged}
use Rattle.audit_views.proofs.local.is_local.Goals as goal

pub returns-in-Took : goal.returns-in-Took
returns-in-Took c = λ m views came.
    cub_judged c.args.plan.now.params m (noted_line c.args.line.now) _ c.may_take.result c.in-Took.is c.if-line-plan.false (c.may_take.ensures m came)

pub returns-in-Sent : goal.returns-in-Sent
returns-in-Sent c = λ m views came.
    cub_judged c.args.plan.now.params m (noted_line c.args.line.now) _ c.may_send.result c.in-Sent.is c.if-line-plan.false
    (c.may_send.ensures c.args.plan.now.params m c.args.line.now.entry.now.stamp.reading c.in-Sent.field-0 c.if-line-plan.false views)

pub returns-in_default : goal.returns-in_default
returns-in_default c = λ m views came.
    other_judged c.args.plan.now.params m (noted_line c.args.line.now) c.in_default.not-Took c.in_default.not-Sent
