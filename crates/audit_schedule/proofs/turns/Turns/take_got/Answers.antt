use Rattle.std.proofs.lemmas.Result.{on_ok_weaker}
use Rattle.audit_schedule.proofs.Marked.{last_marked, none_last, lowest_marked, none_lowest}
use Rattle.audit_schedule.proofs.turns.Turns.take_got.Goals as goal

pub returns-in-Some-clause-last : goal.returns-in-Some-clause-last
returns-in-Some-clause-last c = on_ok_weaker c.keep_got.result (λ set p v is.
    last_marked c.args.line.now.entry.now.stamp.beat v _ c.got_want.result c.in-Some.want _ _ (c.got_want.ensures p is)
    c.in-Some.is (set v)) c.keep_got.ensures.last

pub returns-in-Some-clause-lowest : goal.returns-in-Some-clause-lowest
returns-in-Some-clause-lowest c = on_ok_weaker c.keep_got.result (λ set p v is.
    lowest_marked c.args.line.now.entry.now.stamp.beat v _ c.got_want.result c.in-Some.want c.args.self.now.last c.args.self.now.lowest _
    (c.got_want.ensures p is) c.in-Some.is (set v)) c.keep_got.ensures.lowest

pub returns-in-None-clause-last : goal.returns-in-None-clause-last
returns-in-None-clause-last c = λ p v is.
    none_last c.args.line.now.entry.now.stamp.beat v _ c.got_want.result _ (c.got_want.ensures p is) c.in-None.is

pub returns-in-None-clause-lowest : goal.returns-in-None-clause-lowest
returns-in-None-clause-lowest c = λ p v is.
    none_lowest c.args.line.now.entry.now.stamp.beat v _ c.got_want.result _ _ (c.got_want.ensures p is) c.in-None.is
