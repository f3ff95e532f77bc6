use Rattle.std.proofs.Common.{Bool, IsTrue, subst, sym}
use Rattle.std.specs.Prelude.{◌↔◌}
use Rattle.run_model.specs.Orders.{IsNotPassedOver}
use Rattle.audit_waits.proofs.Judged.{tick_judged}
use Rattle.audit_waits.proofs.so_far.SoFar.is_patient.Goals as goal

pub returns-clause-patient : goal.returns-clause-patient
returns-clause-patient c = λ orders m tells.
    let p = c.args.plan.now.params in
    subst (λ (b : Bool). IsTrue b ↔ IsNotPassedOver p orders m c.args.tick.cub.0 c.args.tick.beat c.args.tick.reading) (sym c.are_both.ensures)
    (tick_judged p orders c.args.self.now m c.args.tick.cub.0 c.args.tick.beat c.args.tick.reading c.cub_before-before.result.0 _ _
    c.args.plan.now.sound c.requires.cub c.cub_before-before.ensures.low c.cub_before-before.ensures.before tells
    (c.are_own_served-own.ensures.served orders m tells) (c.are_others_served-other.ensures.served orders m tells))
