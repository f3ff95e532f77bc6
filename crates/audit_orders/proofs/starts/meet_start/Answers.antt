use Rattle.audit_orders.proofs.Sameness.{met_other_start}
use Rattle.audit_orders.proofs.starts.meet_start.Goals as goal

pub returns-else-is_same : goal.returns-else-is_same
returns-else-is_same c =
    met_other_start c.args.wanted.now c.args.next c.args.sent.now c.wanted_at-w.result c.is_same.result c.wanted_at-w.ensures c.if-w-sent.false
    c.is_same.ensures c.if-is_same.false
