use Rattle.world.proofs.Lives.{has_lived_tick}
use Rattle.world.proofs.events.tick.Goals as goal

pub returns-clause-lived : goal.returns-clause-lived
returns-clause-lived g c =
    has_lived_tick _ _ _ _ _ _ _ _ _ _ _ _ _ _ c.member.view_is c.args.sends _ _ _ c.args.stamp _ _ _ _ _ _ _ _ _ _ c.in_ok-entries.ensures c.in_ok-mark.ensures.ok c.member-2.view_is
