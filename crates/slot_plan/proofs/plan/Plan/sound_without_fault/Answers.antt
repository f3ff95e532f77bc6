use Rattle.slot_plan.proofs.Conditions.{IsPlan-from}
use Rattle.slot_plan.proofs.plan.Plan.sound_without_fault.Goals as goal

pub returns : goal.returns
returns c = λ p ranges none. IsPlan-from p ranges none
