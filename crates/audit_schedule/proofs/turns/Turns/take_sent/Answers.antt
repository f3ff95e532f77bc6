use Rattle.std.proofs.lemmas.Result.{on_ok_weaker}
use Rattle.audit_schedule.proofs.Marked.{sent_marked, none_sent}
use Rattle.audit_schedule.proofs.turns.Turns.take_sent.Goals as goal

pub returns-in-Some-clause-latest : goal.returns-in-Some-clause-latest
returns-in-Some-clause-latest c = on_ok_weaker c.keep_sent.result (λ set v.
    sent_marked c.args.line.now.entry.now.stamp.beat v _ c.sent_want.result c.in-Some.want c.args.self.now.latest _ c.sent_want.ensures
    c.in-Some.is (set v)) c.keep_sent.ensures.latest

pub returns-in-None-clause-latest : goal.returns-in-None-clause-latest
returns-in-None-clause-latest c = λ v.
    none_sent c.args.line.now.entry.now.stamp.beat v _ c.sent_want.result _ c.sent_want.ensures c.in-None.is
