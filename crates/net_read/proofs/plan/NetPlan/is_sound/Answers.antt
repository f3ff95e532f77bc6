use Rattle.std.proofs.Common.{subst}
use Rattle.net_read.specs.Plans.{IsNetPlan}
use Rattle.net_read.proofs.plan.NetPlan.is_sound.Goals as goal

pub returns : goal.returns
returns c = subst IsNetPlan c.self.view_is c.self.invariant
