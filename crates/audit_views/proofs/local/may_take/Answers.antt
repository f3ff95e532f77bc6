use Rattle.audit_views.proofs.Bringing.{record_judged}
use Rattle.audit_views.proofs.local.may_take.Goals as goal

pub returns : goal.returns
returns c = λ m h.
    record_judged c.args.plan.now.params _ m c.args.cub.0 c.args.reading c.args.r.now _ _ _ _ c.are_three.ensures c.is_for_cub-mine.ensures
    c.has_by-came.ensures c.is_soon-soon.ensures h
