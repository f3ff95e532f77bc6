use Rattle.std.proofs.Common.{subst, sym, arith}
use Rattle.ring_links.specs.Flights.{IsOrdered, AllBy}
use Rattle.ring_links.proofs.Orders.{by_later}
use Rattle.ring_cells.proofs.ports.OutPort.end_beat.Goals as goal

pub invariant_of-self : goal.invariant_of-self
invariant_of-self g c =
    let inv = c.self.invariant in
    let e = c.mark.ensures in
    let top = c.max-self-inside.result in (
      subst IsOrdered (sym e.flights) inv.0,
      subst (AllBy top c.self.inside.arrival) (sym e.flights)
          (by_later c.self.inside.from c.self.inside.arrival top c.self.inside.arrival c.self.inside.end.flights (omega (arith, c.max-self-inside.ensures)) (omega arith) inv.1),
      omega (arith, e.closed, c.max-self-inside.ensures),
    )
