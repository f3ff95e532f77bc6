use Rattle.audit_orders.proofs.Streaming.{pushed_here}
use Rattle.audit_orders.proofs.mail.push_mail.Goals as goal

pub returns : goal.returns
returns c = pushed_here c.args.stream c.args.mail _ _ _ c.in_ok-make_row.ensures c.in_ok-push_at.ensures
