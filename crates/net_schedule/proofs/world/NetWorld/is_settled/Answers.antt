use Rattle.std.proofs.Common.{subst}
use Rattle.net_schedule.specs.Settled.{IsMadeByEvents, SettlesEach, SettlesAll}
use Rattle.net_schedule.proofs.Settles.{settles_each, settles_all}
use Rattle.net_schedule.proofs.world.NetWorld.is_settled.Goals as goal

pub returns-clause-made : goal.returns-clause-made
returns-clause-made c = subst IsMadeByEvents c.self.view_is c.self.invariant.made

pub returns-clause-each : goal.returns-clause-each
returns-clause-each c = subst SettlesEach c.self.view_is (settles_each _ c.self.invariant)

pub returns-clause-all : goal.returns-clause-all
returns-clause-all c = subst SettlesAll c.self.view_is (settles_all _ c.self.invariant)
