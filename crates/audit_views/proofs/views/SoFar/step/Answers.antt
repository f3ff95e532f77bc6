use Rattle.audit_frame.specs.Lines.{noted_line}
use Rattle.audit_views.proofs.Judging.{step_judged}
use Rattle.audit_views.proofs.views.SoFar.step.Goals as goal

pub returns-clause-part : goal.returns-clause-part
returns-clause-part c = λ m h le part.
    let after = c.in_ok-take.ensures m h le in
    step_judged c.args.plan.now.params m (noted_line c.args.line.now) c.args.self.now.beat c.touched_by-touched.result _ _ _ _ h.beat
    c.are_three.ensures (λ v t. c.touched_by-touched.ensures m v h.schedule.holder t) (c.is_taken_part-taken.ensures _ after)
    (c.is_touched_part-in_place.ensures _ after)
    (c.are_late_part-in_time.ensures _ after) part
