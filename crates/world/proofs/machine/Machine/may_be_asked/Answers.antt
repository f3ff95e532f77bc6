use Rattle.world.proofs.Asking.{is_event}
use Rattle.world.proofs.machine.Machine.may_be_asked.Goals as goal

pub returns-then-event-self-clause-yes : goal.returns-then-event-self-clause-yes
returns-then-event-self-clause-yes g c = is_event _ _ c.args.event _ c.self.view_is c.if-event-self.true c.is_act_of.ensures.yes
