use Rattle.std.proofs.Common.{◌+◌, sym, subst, arith}
use Rattle.ring_links.specs.Flights.{IsOrdered, AllBy}
use Rattle.ring_links.proofs.Orders.{by_later}
use Rattle.tests_of_rings.proofs.links.Sender.end_beat.Goals as goal

pub invariant_of-self : goal.invariant_of-self
invariant_of-self c =
    let beat = c.self.inside.beat in (
      subst IsOrdered (sym c.mark.ensures.flights) c.self.invariant.0,
      subst (AllBy (beat + 1) (beat + 1 + 1)) (sym c.mark.ensures.flights) (by_later beat (beat + 1) (beat + 1) (beat + 1 + 1) _ (omega arith) (omega arith) c.self.invariant.1),
      omega (arith, c.mark.ensures.closed),
      omega (arith, c.if-self-lt-BEATS.true),
    )
