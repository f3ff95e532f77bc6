use Rattle.audit_views.proofs.Judging.{other_judged, took_judged}
use Rattle.audit_views.proofs.views.SoFar.is_taken_part.Goals as goal

pub returns-in-Took : goal.returns-in-Took
returns-in-Took c = λ m h. took_judged c.args.plan.now.params m _ _ c.in-Took.r _ c.in-Took.is (c.is_kept_part.ensures m h)

pub returns-in_default : goal.returns-in_default
returns-in_default c = λ m h. other_judged c.args.plan.now.params m _ _ c.in_default.not-Took
