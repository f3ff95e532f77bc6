use Rattle.std.proofs.Common.{◌-◌, ◌≤◌, length}
use Rattle.mirror_schedule.specs.TimedPieces.{timed_before}
use Rattle.mirror_schedule.specs.Sorted.{place_of}
use Rattle.mirror_schedule.proofs.order.halved.Given as goal

abbrev pub invariant-loop-low : goal.invariant-loop-low
invariant-loop-low l = record {
  above : l.low ≤ place_of timed_before l.x l.items.items;
  below : place_of timed_before l.x l.items.items ≤ l.high;
  inside : l.high ≤ length l.items.items;
}

abbrev pub decreases-loop-low : goal.decreases-loop-low
decreases-loop-low l = l.high - l.low
