use Rattle.std.proofs.Common.{sym, ◌∙◌}
use Rattle.audit_waits.proofs.Waiting.{over_lets_none}
use Rattle.audit_waits.proofs.starts.Starts.let_in.Goals as goal

pub returns-then-has-clause-waiting : goal.returns-then-has-clause-waiting
returns-then-has-clause-waiting c = over_lets_none c.args.plan.now.params c.args.redundant c.args.node.0 c.args.v.0 c.args.self.now
    (sym c.has.ensures ∙ c.if-has.true)
