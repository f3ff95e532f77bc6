use Rattle.std.proofs.Common.{sym, ◌∙◌}
use Rattle.audit_views.proofs.Judging.{may_stand_judged, seated_judged}
use Rattle.audit_views.proofs.views.SoFar.are_part.Goals as goal

pub returns-in-Some : goal.returns-in-Some
returns-in-Some c = λ m h.
    may_stand_judged c.args.plan.now.params _ _ _ _ _ m c.args.v.0 c.in-Some.stop c.may_stand.result (sym c.get.ensures ∙ c.in-Some.is)
    c.may_stand.ensures h

pub returns-in-None : goal.returns-in-None
returns-in-None c = λ m h.
    seated_judged c.args.plan.now.params _ _ _ _ _ m c.args.v.0 c.are_seated.result (sym c.get.ensures ∙ c.in-None.is)
    c.are_seated.ensures h
