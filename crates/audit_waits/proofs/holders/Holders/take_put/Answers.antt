use Rattle.audit_waits.proofs.Holding.{put_keeps}
use Rattle.audit_waits.proofs.holders.Holders.take_put.Goals as goal

pub returns-clause-kept : goal.returns-clause-kept
returns-clause-kept c = λ kept.
    put_keeps c.args.self.now _ c.args.t.now c.get.result c.is_none-first.result c.get.ensures c.is_none-first.ensures kept
    c.in_ok-seat.ensures.stops c.in_ok-seat.ensures.seats
