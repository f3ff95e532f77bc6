use Rattle.std.proofs.Common.{◌∙◌}
use Rattle.mirror_schedule.specs.Listings.{row_of_piece}
use Rattle.mirror_schedule.specs.TimedPieces.{timed_before}
use Rattle.mirror_schedule.proofs.Listings.{timed_total}
use Rattle.mirror_schedule.proofs.InRows.{row_more}
use Rattle.mirror_schedule.proofs.TimedPieces.{timed_order}
use Rattle.mirror_schedule.proofs.rows.grow.Goals as goal

pub loop-alloc-preserved : goal.loop-alloc-preserved
loop-alloc-preserved c = λ n.
    row_more timed_before timed_order timed_total row_of_piece c.loop-alloc.rows.items c.push.new.self.items c.new.result c.new.ensures c.in_ok-push.ensures.items n ∙ c.loop-alloc.invariant n
