use Rattle.audit_schedule.proofs.Marked.{leaves, leaves_nothing}
use Rattle.audit_schedule.proofs.turns.Turns.leaves_in_turn.Goals as goal

pub returns-in-Some : goal.returns-in-Some
returns-in-Some c = λ p front early h.
    leaves p front c.args.line.now.entry.now.stamp.beat c.in-Some.want _ c.sent_want.result c.args.self.now.latest c.args.self.now.last
    c.args.self.now.lowest c.may_leave.result c.sent_want.ensures c.in-Some.is c.may_leave.ensures early h

pub returns-in-None : goal.returns-in-None
returns-in-None c = λ p front early h.
    leaves_nothing p front c.args.line.now.entry.now.stamp.beat _ c.sent_want.result c.sent_want.ensures c.in-None.is
