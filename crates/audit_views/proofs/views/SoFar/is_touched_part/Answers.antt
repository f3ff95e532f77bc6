use Rattle.audit_views.proofs.Judging.{touched_judged, untouched_judged}
use Rattle.audit_views.proofs.views.SoFar.is_touched_part.Goals as goal

pub returns-in-Some : goal.returns-in-Some
returns-in-Some c = λ m h. touched_judged c.args.plan.now.params m c.args.touched c.in-Some.v c.are_part.result c.in-Some.is (c.are_part.ensures m h)

pub returns-in-None : goal.returns-in-None
returns-in-None c = λ m h. untouched_judged c.args.plan.now.params m c.args.touched c.in-None.is
