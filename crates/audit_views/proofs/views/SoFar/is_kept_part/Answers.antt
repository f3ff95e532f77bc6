use Rattle.audit_views.proofs.Judging.{absent_part, right_part}
use Rattle.audit_views.proofs.views.SoFar.is_kept_part.Goals as goal

pub returns-then-is_record_part : goal.returns-then-is_record_part
returns-then-is_record_part c = λ m h.
    right_part c.args.plan.now.params m c.args.node.0 c.args.r.now _ c.if-is_record_part.true (c.is_record_part.ensures m h)

pub returns : goal.returns
returns c = λ m h.
    absent_part c.args.plan.now.params _ _ _ _ _ m c.args.node.0 c.args.r.now _ _ c.has.ensures c.if-is_record_part.false h
    (c.is_record_part.ensures m h)
