use Rattle.std.proofs.Common.{◌∙◌, sym}
use Rattle.mirror_schedule.specs.Listings.{row_of_piece}
use Rattle.mirror_schedule.specs.TimedPieces.{timed_before}
use Rattle.mirror_schedule.proofs.Listings.{timed_total}
use Rattle.mirror_schedule.proofs.InRows.{popped}
use Rattle.mirror_schedule.proofs.TimedPieces.{timed_order}
use Rattle.mirror_schedule.proofs.listing.drop_gone.Goals as goal

pub loop-agenda-preserved : goal.loop-agenda-preserved
loop-agenda-preserved c =
    let next = popped timed_before timed_order timed_total row_of_piece c.args.rows.now.items c.loop-agenda.agenda c.drop_first.new.self (sym c.is_front_gone.ensures ∙ c.loop-agenda-test.true) c.drop_first.ensures
    c.loop-agenda.invariant.listing.order c.loop-agenda.invariant.listing.stand in
    record { listing = record { order = next.sorted; stand = next.stand }; same = next.seen ∙ c.loop-agenda.invariant.same }

pub loop-agenda-smaller : goal.loop-agenda-smaller
loop-agenda-smaller c =
    (popped timed_before timed_order timed_total row_of_piece c.args.rows.now.items c.loop-agenda.agenda c.drop_first.new.self (sym c.is_front_gone.ensures ∙ c.loop-agenda-test.true) c.drop_first.ensures
    c.loop-agenda.invariant.listing.order c.loop-agenda.invariant.listing.stand).fewer
