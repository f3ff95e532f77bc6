use Rattle.deschedule.proofs.Order.{from_front, from_none}
use Rattle.deschedule.proofs.releases.first_until.Goals as goal

pub returns-in-Some : goal.returns-in-Some
returns-in-Some c = from_front _ c.args.holds.now.items c.requires c.in-Some.ensures.lookup

pub returns-in-None : goal.returns-in-None
returns-in-None c = from_none _ _ c.args.holds.now.items c.args.holds.now.ok.0 (λ l. cc (c.in-None.ensures.variant.1 l))
