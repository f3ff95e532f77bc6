use Rattle.std.proofs.Common.{refl}
use Rattle.slot_plan.proofs.Windows.{least_visit_says, least_visit_is}
use Rattle.slot_plan.proofs.plan.Plan.least_visit_laws.Goals as goal

pub returns-clause-found : goal.returns-clause-found
returns-clause-found c = λ reading disk test. least_visit_says c.args.self.now.params reading disk test _ c.args.self.now.sound refl

pub returns-clause-only : goal.returns-clause-only
returns-clause-only c = λ reading disk test k least. least_visit_is c.args.self.now.params reading disk test k c.args.self.now.sound least
