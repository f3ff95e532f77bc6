use Rattle.partial_view.proofs.Rows.{none-due, later-due, none-left}
use Rattle.partial_view.proofs.bucket.Bucket.next_due.Goals as goal

pub returns-then-row-dues-clause-next : goal.returns-then-row-dues-clause-next
returns-then-row-dues-clause-next c =
    none-due c.self.inside.lines c.args.self.now c.dues-dues.result.now c.args.time c.from_near-row.result c.self.view_is c.dues-dues.ensures c.self.invariant c.from_near-row.ensures.place _ c.if-row-dues.true

pub returns-then-row-dues-clause-later : goal.returns-then-row-dues-clause-later
returns-then-row-dues-clause-later c =
    later-due c.self.inside.lines c.args.self.now c.dues-dues.result.now c.args.time c.from_near-row.result c.self.view_is c.dues-dues.ensures c.self.invariant c.from_near-row.ensures.place _ c.if-row-dues.true

pub returns-else-row-dues-clause-next : goal.returns-else-row-dues-clause-next
returns-else-row-dues-clause-next c =
    none-left c.self.inside.lines c.args.self.now c.dues-dues.result.now c.args.time c.from_near-row.result c.self.view_is c.dues-dues.ensures c.self.invariant c.from_near-row.ensures.place _ c.if-row-dues.false
