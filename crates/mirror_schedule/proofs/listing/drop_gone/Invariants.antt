use Rattle.std.proofs.Common.{◌≡◌, length}
use Rattle.mirror_schedule.specs.Listings.{IsListing, pieces_standing}
use Rattle.mirror_schedule.proofs.listing.drop_gone.Given as goal

abbrev pub invariant-loop-agenda : goal.invariant-loop-agenda
invariant-loop-agenda l = record {
  listing : IsListing l.rows.items l.agenda;
  same : pieces_standing l.rows.items l.agenda ≡ pieces_standing l.rows.items l.fn.agenda;
}

abbrev pub decreases-loop-agenda : goal.decreases-loop-agenda
decreases-loop-agenda l = length l.agenda
