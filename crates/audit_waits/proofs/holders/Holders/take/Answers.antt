use Rattle.std.proofs.lemmas.Result.{on_ok_weaker}
use Rattle.audit_frame.specs.Lines.{noted_line}
use Rattle.audit_waits.proofs.Holding.{put_holds, gone_holds, other_holds}
use Rattle.audit_waits.proofs.holders.Holders.take.Goals as goal

pub returns-in-Put-clause-tells : goal.returns-in-Put-clause-tells
returns-in-Put-clause-tells c = on_ok_weaker c.take_put.result (λ seated p m h.
    put_holds p c.args.self.now c.take_put.new.self m (noted_line c.args.line.now) c.in-Put.t c.in-Put.is c.take_put.ensures.stops seated h)
    c.take_put.ensures.seats

pub returns-in_ok-keep_stop-in-Gone-clause-tells : goal.returns-in_ok-keep_stop-in-Gone-clause-tells
returns-in_ok-keep_stop-in-Gone-clause-tells c = λ p m h.
    gone_holds p c.args.self.now _ m (noted_line c.args.line.now) c.in-Gone.v c.in-Gone.is c.in_ok-keep_stop-in-Gone.ensures.seats c.in_ok-keep_stop-in-Gone.ensures.stops h

pub returns-in_default-clause-tells : goal.returns-in_default-clause-tells
returns-in_default-clause-tells c = λ p m h.
    other_holds p _ m (noted_line c.args.line.now) c.in_default.not-Put c.in_default.not-Gone h

pub returns-in_default-clause-kept : goal.returns-in_default-clause-kept
returns-in_default-clause-kept c = λ kept k had. had
