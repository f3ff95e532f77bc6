use Rattle.audit_frame.specs.Lines.{noted_line}
use Rattle.audit_blocks.proofs.Claiming.{entry_judged}
use Rattle.audit_blocks.proofs.unserved.is_served_entry.Goals as goal

pub returns : goal.returns
returns c = λ put.
    entry_judged c.args.kept.now (noted_line c.args.line.now) c.is_served_if_put-served.result c.is_of_put_if_viewers-of_put.result
    c.are_both.result c.are_both.ensures (c.is_served_if_put-served.ensures put) c.is_of_put_if_viewers-of_put.ensures
