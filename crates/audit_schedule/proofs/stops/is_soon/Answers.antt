use Rattle.std.proofs.Common.{sym, ◌∙◌}
use Rattle.audit_schedule.proofs.Stopping.{soon_by_mark, soon_without_mark}
use Rattle.audit_schedule.proofs.stops.is_soon.Goals as goal

pub returns-in-Some : goal.returns-in-Some
returns-in-Some c = λ m h.
    soon_by_mark c.args.plan.now.params c.args.stops.now m c.args.v.0 c.args.span c.args.beat c.in-Some.stop c.is_within.result
    (sym c.get.ensures ∙ c.in-Some.is) c.is_within.ensures h

pub returns-in-None : goal.returns-in-None
returns-in-None c = λ m h.
    soon_without_mark c.args.plan.now.params c.args.stops.now m c.args.v.0 c.args.span c.args.beat (sym c.get.ensures ∙ c.in-None.is) h
