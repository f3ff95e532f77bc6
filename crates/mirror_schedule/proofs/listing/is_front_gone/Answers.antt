use Rattle.std.proofs.Common.{◌∙◌, not, ap}
use Rattle.mirror_schedule.proofs.Listings.{front_none, front_told}
use Rattle.mirror_schedule.proofs.listing.is_front_gone.Goals as goal

pub returns-in-Some : goal.returns-in-Some
returns-in-Some c = ap not c.is_standing.ensures ∙ front_told c.args.rows.now.items c.args.agenda.now c.in-Some.first c.in-Some.ensures

pub returns-in-None : goal.returns-in-None
returns-in-None c = front_none c.args.rows.now.items c.args.agenda.now c.in-None.ensures
