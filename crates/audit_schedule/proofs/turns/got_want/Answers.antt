use Rattle.audit_schedule.proofs.Marked.{got_if}
use Rattle.audit_schedule.proofs.turns.got_want.Goals as goal

pub returns : goal.returns
returns c = λ p same.
    got_if c.args.line.now.entry.now.stamp.beat c.args.line.now.node.0 c.args.viewers.0 _ _ c.want_in-want.result c.kept_if.result same
    c.kept_if.ensures c.want_in-want.ensures
