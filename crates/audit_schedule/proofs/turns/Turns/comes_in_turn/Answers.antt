use Rattle.audit_schedule.proofs.Marked.{comes, comes_nothing}
use Rattle.audit_schedule.proofs.turns.Turns.comes_in_turn.Goals as goal

pub returns-in-Some : goal.returns-in-Some
returns-in-Some c = λ p front is early h.
    comes p front c.args.line.now.entry.now.stamp.beat c.in-Some.want _ c.got_want.result c.args.self.now.latest c.args.self.now.last
    c.args.self.now.lowest c.may_come.result (c.got_want.ensures p is) c.in-Some.is c.may_come.ensures early h

pub returns-in-None : goal.returns-in-None
returns-in-None c = λ p front is early h.
    comes_nothing p front c.args.line.now.entry.now.stamp.beat _ c.got_want.result (c.got_want.ensures p is) c.in-None.is
