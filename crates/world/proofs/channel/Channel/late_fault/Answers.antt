use Rattle.std.proofs.Common.{sym, ap, ◌∙◌, ◌+◌, Some, None, cond}
use Rattle.std.specs.Prelude.{nat_le}
use Rattle.ring_world.specs.declared.event.StepFault.TheVariants as fault
use Rattle.world.proofs.Late.{oldest_late}
use Rattle.world.proofs.channel.Channel.late_fault.Goals as goal

pub returns-in-Some : goal.returns-in-Some
returns-in-Some g c =
    c.late_fault.ensures
    ∙ ap (λ sent. cond (nat_le (sent + c.args.most) c.args.beat) (Some (fault.TooLate c.args.link sent)) None) c.sent.ensures
    ∙ sym (oldest_late c.args.link.0 c.args.most c.args.beat _ _ c.in-Some.ensures c.requires)
