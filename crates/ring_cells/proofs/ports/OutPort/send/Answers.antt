use Rattle.std.proofs.Common.{subst, sym, arith}
use Rattle.ring_links.specs.Flights.{IsOrdered, AllBy}
use Rattle.ring_links.proofs.Orders.{ordered_next, by_next, by_later}
use Rattle.ring_cells.proofs.ports.OutPort.send.Goals as goal

pub send-requires-clause-order : goal.send-requires-clause-order
send-requires-clause-order g c =
    ordered_next c.self.inside.from c.self.inside.arrival c.self.inside.end.flights c.args.flight c.self.invariant.0 c.self.invariant.1
    c.if-sent-self.false c.if-arrival-self.false c.if-arrival-sent.false

pub invariant_of-self : goal.invariant_of-self
invariant_of-self g c =
    let inv = c.self.invariant in
    let e = c.in_default.ensures in (
      subst IsOrdered (sym e.unsent) inv.0,
      subst (AllBy c.self.inside.from c.self.inside.arrival) (sym e.unsent) inv.1,
      omega (arith, e.closed, inv.2),
    )

pub invariant_of-self-2 : goal.invariant_of-self-2
invariant_of-self-2 g c =
    let inv = c.self.invariant in
    let f = c.args.flight in
    let e = c.in-Ok.ensures in (
      subst IsOrdered (sym e.sent)
          (ordered_next c.self.inside.from c.self.inside.arrival c.self.inside.end.flights f inv.0 inv.1 c.if-sent-self.false c.if-arrival-self.false c.if-arrival-sent.false),
      subst (AllBy f.sent f.arrival) (sym e.sent)
          (by_next f.sent f.arrival c.self.inside.end.flights f
          (by_later c.self.inside.from c.self.inside.arrival f.sent f.arrival c.self.inside.end.flights c.if-sent-self.false c.if-arrival-self.false inv.1) (omega arith) (omega arith)),
      omega (arith, e.closed, inv.2, c.if-sent-self.false),
    )
