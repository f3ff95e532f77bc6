use Rattle.audit_orders.proofs.Mailing.{count_set}
use Rattle.audit_orders.proofs.mail.Counts.set.Goals as goal

pub returns : goal.returns
returns c = λ s. count_set c.args.stream s c.args.count _ _ _ _ c.self.view_is c.in_ok-make_place.ensures.same c.in_ok-make_place.ensures.place c.set_at.ensures
