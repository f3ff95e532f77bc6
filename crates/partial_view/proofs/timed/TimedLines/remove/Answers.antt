use Rattle.partial_view.proofs.Dues.{dues-remove, dues-along}
use Rattle.partial_view.proofs.timed.TimedLines.remove.Goals as goal

pub invariant_of-self : goal.invariant_of-self
invariant_of-self c =
    dues-along c.self.inside.plan.params c.remove-2.ensures.left c.remove.ensures.left (dues-remove c.self.inside.plan.params c.self.inside.lines c.self.inside.dues c.args.place c.self.invariant)
