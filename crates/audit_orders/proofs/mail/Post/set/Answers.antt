use Rattle.audit_orders.proofs.Streaming.{mail_late, mail_pushed}
use Rattle.audit_orders.proofs.mail.Post.set.Goals as goal

pub returns-then-is_next : goal.returns-then-is_next
returns-then-is_next c = λ s n. mail_pushed c.args.stream c.args.place s n c.args.mail c.self.inside.late.entries _ c.self.inside.rows.items _
    c.self.view_is (c.is_next.ensures c.if-is_next.true) c.in_ok-push_mail.ensures

pub returns : goal.returns
returns c = λ s n. mail_late c.args.stream c.args.place s n c.args.mail _ _ _ c.self.inside.rows.items c.self.view_is
    (c.in_ok-insert.ensures.updates.0 (s, n))
