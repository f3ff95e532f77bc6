use Rattle.std.proofs.Common.{ap, sym, subst, ◌∙◌}
use Rattle.slot_plan.specs.declared.params.Params.{Params}
use Rattle.slot_plan.specs.Conditions.{IsPlan}
use Rattle.disk_core.specs.State.{DiskState}
use Rattle.disk_core.proofs.Told.{told_first_disk}
use Rattle.disk_core.proofs.tests.a_disk_acts_through_the_trait.Goals as goal

pub told-requires-clause-in_link : goal.told-requires-clause-in_link
told-requires-clause-in_link g c =
    let made = ap (λ (s : DiskState). s.params) c.new-disk.ensures in
    told_first_disk c.new-disk.result (subst (λ (p : Params). IsPlan p) (sym made) c.small_plan-plan.result.sound) (ap (λ (p : Params). p.cubs) made ∙ ap (λ (p : Params). p.cubs) c.small_plan-plan.ensures) (ap (λ (p : Params). p.disks) made ∙ ap (λ (p : Params). p.disks) c.small_plan-plan.ensures) (ap (λ (p : Params). p.pieces) made ∙ ap (λ (p : Params). p.pieces) c.small_plan-plan.ensures) (ap (λ (s : DiskState). s.disk) c.new-disk.ensures)
