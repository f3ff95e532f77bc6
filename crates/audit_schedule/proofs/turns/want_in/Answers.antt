use Rattle.audit_schedule.proofs.Marked.{is_got, not_got_by}
use Rattle.audit_schedule.proofs.turns.want_in.Goals as goal

pub returns-in-Got : goal.returns-in-Got
returns-in-Got c = is_got c.args.line.now.entry.now.stamp.beat _ c.in-Got.field-0 c.in-Got.note _ c.in-Got.is c.carried.ensures

pub returns-in_default : goal.returns-in_default
returns-in_default c = not_got_by c.args.line.now.entry.now.stamp.beat _ c.in_default.not-Got
