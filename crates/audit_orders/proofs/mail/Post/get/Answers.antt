use Rattle.audit_orders.proofs.Streaming.{mail_told}
use Rattle.audit_orders.proofs.mail.Post.get.Goals as goal

pub returns : goal.returns
returns c = mail_told c.args.stream c.args.place _ _ _ _ _ _ c.self.view_is c.late_mail-late.ensures c.mail_in-mail.ensures c.first_of.ensures
