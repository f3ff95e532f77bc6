use Rattle.std.proofs.Common.{subst}
use Rattle.net_schedule.specs.Links.{IsWorld}
use Rattle.net_schedule.specs.Claims.{KeepsToCapacity, KeepsWhatIsAsked}
use Rattle.net_schedule.proofs.Capacity.{capacity, what_is_asked}
use Rattle.net_schedule.proofs.world.NetWorld.is_safe.Goals as goal

pub returns-clause-world : goal.returns-clause-world
returns-clause-world c = subst IsWorld c.self.view_is c.self.invariant

pub returns-clause-capacity : goal.returns-clause-capacity
returns-clause-capacity c = subst KeepsToCapacity c.self.view_is (capacity _ c.self.invariant)

pub returns-clause-asked : goal.returns-clause-asked
returns-clause-asked c = subst KeepsWhatIsAsked c.self.view_is (what_is_asked _ c.self.invariant)
