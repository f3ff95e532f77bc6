-- A disk stays where it stands, and answers in form on its own link.
use Rattle.std.proofs.Common.{ℕ, IsTrue, subst}
use Rattle.std.specs.List.{AllByRecursion}
use Rattle.tiger_base.specs.declared.number.Stamp.{Stamp}
use Rattle.tiger_base.specs.declared.message.Msg.{Msg}
use Rattle.tiger_base.specs.declared.message.Msg.TheVariants as msg
use Rattle.tiger_base.specs.Notes.{noted}
use Rattle.slot_plan.specs.declared.params.Params.{Params}
use Rattle.node_kit.specs.Form.{is_in_form}
use Rattle.node_kit.specs.Steps.{IsAllowed}
use Rattle.node_kit.specs.Steps.Input.{Take, Tick}
use Rattle.node_kit.proofs.Places.{KeepsPlace, IsRightAt, nothing_right, chosen_right}
use Rattle.node_kit.proofs.Ways.{from_disk_leads}
use Rattle.node_kit.specs.Deeds.{nothing}
use Rattle.disk_core.specs.State.{DiskState, IsDisk}
use Rattle.disk_core.specs.Rules.{answers, asked, disk_step}

answers_right : (p : Params) (n : ℕ) (stamp : Stamp) (m : Msg) (s : DiskState) → IsDisk s p n → IsTrue (is_in_form s.params (noted m))
    → IsRightAt (λ (t : DiskState). IsDisk t p n) p n (answers stamp m s)
answers_right p n stamp (msg.ReadAsk want) s at form = record {
  keeps = at;
  allowed =
      subst (λ q. AllByRecursion (IsAllowed noted q n) (answers stamp (msg.ReadAsk want) s).outs) at.params
      (subst (λ k. AllByRecursion (IsAllowed noted s.params k) (answers stamp (msg.ReadAsk want) s).outs) at.number
      ((from_disk_leads s.params s.disk at.inside, form), tt));
}
answers_right p n stamp m s at form = nothing_right (λ (t : DiskState). IsDisk t p n) p n s at

asked_right : (p : Params) (n : ℕ) (stamp : Stamp) (m : Msg) (s : DiskState) → IsDisk s p n
    → IsRightAt (λ (t : DiskState). IsDisk t p n) p n (asked stamp m s)
unfolding asked
asked_right p n stamp m s at =
    chosen_right (λ (t : DiskState). IsDisk t p n) p n (is_in_form s.params (noted m)) (answers stamp m s) (nothing s)
    (λ form. answers_right p n stamp m s at form) (λ _. nothing_right (λ (t : DiskState). IsDisk t p n) p n s at)

pub disk_keeps : KeepsPlace disk_step IsDisk
disk_keeps s (Take stamp link m) p n at = let right = asked_right p n stamp m s at in (right.keeps, right.allowed)
disk_keeps s (Tick stamp) p n at = (at, tt)
