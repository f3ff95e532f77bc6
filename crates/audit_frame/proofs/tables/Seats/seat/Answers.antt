use Rattle.audit_frame.proofs.Tabled.{set_under}
use Rattle.audit_frame.proofs.tables.Seats.seat.Goals as goal

pub returns : goal.returns
returns c = λ slot. set_under c.args.t.slot.0 slot c.args.t _ _ _ c.self.view_is (c.in_ok-insert.ensures.updates.0 slot)
