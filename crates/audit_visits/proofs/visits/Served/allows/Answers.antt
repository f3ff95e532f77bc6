use Rattle.audit_visits.proofs.Judging.{sent_judged, other_judged}
use Rattle.audit_visits.proofs.visits.Served.allows.Goals as goal

pub returns-in-Sent : goal.returns-in-Sent
returns-in-Sent c = λ front h.
    let beat = c.args.line.now.entry.now.stamp.beat in
    sent_judged c.args.plan.now.params front beat _ c.in-Sent.field-0 c.in-Sent.note _ c.in-Sent.is
    (c.allows_note.ensures front beat c.in-Sent.field-0 h)

pub returns-in_default : goal.returns-in_default
returns-in_default c = λ front h.
    other_judged c.args.plan.now.params front c.args.line.now.entry.now.stamp.beat _ c.in_default.not-Sent
