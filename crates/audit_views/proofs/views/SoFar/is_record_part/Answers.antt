use Rattle.std.proofs.Common.{sym, ap, ◌∙◌}
use Rattle.audit_views.specs.Views.{is_seated}
use Rattle.audit_views.proofs.Judging.{seated_part, stopped_part}
use Rattle.audit_views.proofs.views.SoFar.is_record_part.Goals as goal

pub returns-in-Some : goal.returns-in-Some
returns-in-Some c = λ m h.
    stopped_part c.args.plan.now.params _ _ _ _ _ m c.args.r.now c.in-Some.stop c.is_within.result (sym c.get.ensures ∙ c.in-Some.is)
    c.is_within.ensures h

pub returns-in-None : goal.returns-in-None
returns-in-None c = λ m h.
    seated_part c.args.plan.now.params _ _ _ _ _ m c.args.node.0 c.args.r.now c.is_seated.result (sym c.get.ensures ∙ c.in-None.is)
    (c.is_seated.ensures ∙ ap (is_seated c.args.self.now.seats) c.held_by.ensures) h
