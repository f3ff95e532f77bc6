use Rattle.std.proofs.Common.{arith}
use Rattle.slot_plan.specs.Times.{due}
use Rattle.slot_plan.proofs.Times.{first_due_fits, visits_fit, due_fits}
use Rattle.slot_plan.proofs.plan.Plan.due.Goals as goal

pub overflow_add-result : goal.overflow_add-result
overflow_add-result c =
    let p = c.args.self.now.params in
    let ranges = c.args.self.now.sound.ranges in
    omega (arith, first_due_fits p c.args.slot.0 ranges c.requires.slot, visits_fit p c.args.visit ranges c.requires.visit)

pub returns-clause-fits : goal.returns-clause-fits
unfolding due
returns-clause-fits c =
    let p = c.args.self.now.params in
    omega (arith, c.first_due.ensures, due_fits p c.args.slot.0 c.args.visit c.args.self.now.sound.ranges c.requires.slot c.requires.visit)
