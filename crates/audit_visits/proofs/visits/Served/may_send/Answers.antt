use Rattle.std.proofs.Common.{refl}
use Rattle.audit_visits.proofs.Judging.{sent_by_row, sent_by_none}
use Rattle.audit_visits.proofs.visits.Served.may_send.Goals as goal

pub returns-in-Some : goal.returns-in-Some
returns-in-Some c = λ front beat h.
    sent_by_row beat c.args.want.now c.in-Some.other c.args.self.now.sent c.args.self.now.asked c.args.self.now.dead front c.get.result _
    c.get.ensures c.in-Some.is refl h

pub returns-in-None : goal.returns-in-None
returns-in-None c = λ front beat h.
    sent_by_none beat c.args.want.now c.args.self.now.sent c.args.self.now.asked c.args.self.now.dead front c.get.result
    c.get.ensures c.in-None.is h
