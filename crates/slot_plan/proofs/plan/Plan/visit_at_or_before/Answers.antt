use Rattle.slot_plan.proofs.Times.{visit_by_latest}
use Rattle.slot_plan.proofs.plan.Plan.visit_at_or_before.Goals as goal

pub returns-clause-latest : goal.returns-clause-latest
returns-clause-latest c =
    visit_by_latest c.args.self.now.params c.args.slot.0 c.args.reading _ c.args.self.now.sound.ranges c.visit_by.ensures.visit
