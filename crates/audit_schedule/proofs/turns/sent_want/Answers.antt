use Rattle.audit_schedule.proofs.Marked.{is_sent, not_sent}
use Rattle.audit_schedule.proofs.turns.sent_want.Goals as goal

pub returns-in-Sent : goal.returns-in-Sent
returns-in-Sent c = is_sent c.args.line.now.entry.now.stamp.beat _ c.in-Sent.field-0 c.in-Sent.note _ c.in-Sent.is c.carried.ensures

pub returns-in_default : goal.returns-in_default
returns-in_default c = not_sent c.args.line.now.entry.now.stamp.beat _ c.in_default.not-Sent
