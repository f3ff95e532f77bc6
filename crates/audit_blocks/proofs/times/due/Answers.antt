use Rattle.std.proofs.Common.{arith}
use Rattle.slot_plan.specs.Times.{due, first_due}
use Rattle.run_model.proofs.Lengths.{due_small}
use Rattle.audit_blocks.proofs.times.due.Goals as goal

pub overflow_add-result : goal.overflow_add-result
unfolding due first_due
overflow_add-result c =
    let small = due_small c.args.plan.now.params c.args.slot.0 c.args.visit c.args.plan.now.sound.ranges (omega arith) (omega arith) in
    omega (arith, small)

pub returns-clause-small : goal.returns-clause-small
unfolding due first_due
returns-clause-small c =
    let small = due_small c.args.plan.now.params c.args.slot.0 c.args.visit c.args.plan.now.sound.ranges (omega arith) (omega arith) in
    omega (arith, small)
