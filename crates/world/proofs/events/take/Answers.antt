use Rattle.std.proofs.lemmas.Result.{on_ok_weaker}
use Rattle.world.proofs.Lives.{has_lived_take}
use Rattle.world.proofs.events.take.Goals as goal

pub returns-clause-lived : goal.returns-clause-lived
returns-clause-lived g c =
    on_ok_weaker c.mark.result (λ e. has_lived_take _ _ _ _ _ _ _ _ _ _ _ _ _ _ c.member.view_is c.args.sends _ _ _ c.args.stamp c.args.link c.args.msg _ c.in_ok-entries.ensures e) c.mark.ensures.ok
