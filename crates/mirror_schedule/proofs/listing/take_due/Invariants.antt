use Rattle.std.proofs.Common.{◌≡◌, length}
use Rattle.mirror_schedule.specs.Listings.{IsListing, pieces_standing}
use Rattle.mirror_schedule.proofs.listing.take_due.Given as goal

abbrev pub invariant-loop-first : goal.invariant-loop-first
invariant-loop-first l = record {
  listing : IsListing l.rows.items l.agenda;
  same : pieces_standing l.rows.items l.agenda ≡ pieces_standing l.fn.rows.items l.fn.agenda;
}

abbrev pub decreases-loop-first : goal.decreases-loop-first
decreases-loop-first l = length l.agenda
