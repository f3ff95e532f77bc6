use Rattle.std.proofs.Common.{subst}
use Rattle.ring_links.specs.Flights.{IsOrdered}
use Rattle.ring_links.specs.Ends.{End}
use Rattle.ring_links.proofs.Orders.{ordered_take}
use Rattle.ring_links.proofs.Steps.{takes, covers}
use Rattle.ring_links.proofs.ends.InEnd.try_next.Goals as goal

pub pop_as-requires-clause-rule : goal.pop_as-requires-clause-rule
pop_as-requires-clause-rule g c = (takes _ _ c.self.invariant.4.takes, covers _ _ c.self.invariant.4.takes)

pub returns-then-self-clause-ordered : goal.returns-then-self-clause-ordered
returns-then-self-clause-ordered g c = subst (λ (e : End g.row.M.Denot). IsOrdered e.flights) c.self.view_is (ordered_take _ _ c.self.invariant.4.ordered)
