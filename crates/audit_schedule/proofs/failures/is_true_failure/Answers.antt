use Rattle.audit_schedule.proofs.Failing.{failure_judged, other_judged}
use Rattle.audit_schedule.proofs.failures.is_true_failure.Goals as goal

pub returns-in-ReadFailed : goal.returns-in-ReadFailed
returns-in-ReadFailed c = λ p faults m h.
    failure_judged p faults c.args.asks.now m _ c.in-ReadFailed.want _ c.in-ReadFailed.is c.has.ensures h

pub returns-in_default : goal.returns-in_default
returns-in_default c = λ p faults m h. other_judged p faults m _ c.in_default.not-ReadFailed
