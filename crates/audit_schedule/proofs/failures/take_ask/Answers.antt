use Rattle.std.proofs.lemmas.Result.{on_ok_weaker}
use Rattle.audit_schedule.proofs.Failing.{ask_taken, ask_left}
use Rattle.audit_schedule.proofs.failures.take_ask.Goals as goal

pub returns : goal.returns
returns c = on_ok_weaker c.add.result (λ added w.
    ask_taken c.args.plan.now.params c.args.faults.now c.args.node.0 c.args.beat c.args.want.now _ _ w c.meets_fault.result c.meets_fault.ensures
    c.if-not-meets_fault.false (added w)) c.add.ensures

pub returns-then-not-meets_fault : goal.returns-then-not-meets_fault
returns-then-not-meets_fault c = λ w.
    ask_left c.args.plan.now.params c.args.faults.now c.args.node.0 c.args.beat c.args.want.now _ w c.meets_fault.result c.meets_fault.ensures
    c.if-not-meets_fault.true
