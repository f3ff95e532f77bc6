use Rattle.audit_views.proofs.Judging.{late_judged, none_late}
use Rattle.audit_views.proofs.views.SoFar.are_late_part.Goals as goal

pub returns : goal.returns
returns c = λ m h.
    late_judged c.args.plan.now.params _ _ _ _ _ m c.args.before c.run_out_in-from.result c.run_out_in-to.result _ c.run_out_in-to.ensures.bound
    c.run_out_in-from.ensures.split c.run_out_in-to.ensures.split (c.are_all_part.ensures m h) h

pub returns-then-is_same_beat : goal.returns-then-is_same_beat
returns-then-is_same_beat c = λ m h. none_late c.args.plan.now.params _ _ _ _ _ m c.args.before (c.is_same_beat.ensures c.if-is_same_beat.true) h
