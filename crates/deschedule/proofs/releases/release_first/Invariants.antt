use Rattle.std.proofs.Common.{length}
use Rattle.deschedule.proofs.Order.{AreReleasing}
use Rattle.deschedule.proofs.releases.release_first.Given as goal

abbrev pub invariant-loop-ended : goal.invariant-loop-ended
invariant-loop-ended l = AreReleasing l.reading l.fn.holds.items l.holds.items l.fn.held.items l.held.items l.fn.unpassed.items l.unpassed.items

abbrev pub decreases-loop-ended : goal.decreases-loop-ended
decreases-loop-ended l = length l.holds.items
