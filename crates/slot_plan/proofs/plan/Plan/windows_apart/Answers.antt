use Rattle.slot_plan.proofs.Times.{windows_apart}
use Rattle.slot_plan.proofs.plan.Plan.windows_apart.Goals as goal

pub returns : goal.returns
returns c = windows_apart c.args.self.now.params c.args.self.now.sound
