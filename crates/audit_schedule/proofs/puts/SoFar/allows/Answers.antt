use Rattle.std.proofs.Common.{subst}
use Rattle.node_kit.specs.declared.journal.What.{What}
use Rattle.audit_schedule.specs.Fair.{IsEarlyPut}
use Rattle.audit_schedule.proofs.Judged.{put_judged}
use Rattle.audit_schedule.proofs.puts.SoFar.allows.Goals as goal

pub may_put-requires : goal.may_put-requires
may_put-requires c = subst (λ (w : What). IsEarlyPut w) c.in-Put.is c.requires

pub returns-in-Put : goal.returns-in-Put
returns-in-Put c = λ orders m all h.
    let line = c.args.line.now in
    put_judged c.args.plan.now.params orders m line.node.0 line.entry.now.stamp.reading line.entry.now.what c.in-Put.t c.may_put.result
    c.in-Put.is (c.may_put.ensures orders m all h)
