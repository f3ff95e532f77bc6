use Rattle.audit_schedule.proofs.Stopping.{put_judged, took_judged, sent_judged, other_judged}
use Rattle.audit_schedule.proofs.stops.brings_nobody_back.Goals as goal

pub returns-in-Put : goal.returns-in-Put
returns-in-Put c = λ m h.
    put_judged c.args.plan.now.params m c.args.line.now.entry.now.stamp.beat _ c.in-Put.t _ _ c.in-Put.is c.way.ensures (c.is_soon.ensures m h)

pub returns-in-Took : goal.returns-in-Took
returns-in-Took c = λ m h.
    took_judged c.args.plan.now.params m c.args.line.now.entry.now.stamp.beat _ c.in-Took.r _ c.in-Took.is (c.is_soon-in-Took.ensures m h)

pub returns-in-Sent : goal.returns-in-Sent
returns-in-Sent c = λ m h.
    sent_judged c.args.plan.now.params m c.args.line.now.entry.now.stamp.beat _ c.in-Sent.field-0 c.in-Sent.note _ c.in-Sent.is
    (c.sends_in_time.ensures m c.in-Sent.field-0 h)

pub returns-in_default : goal.returns-in_default
returns-in_default c = λ m h.
    other_judged c.args.plan.now.params m c.args.line.now.entry.now.stamp.beat _ c.in_default.not-Put c.in_default.not-Took c.in_default.not-Sent
