use Rattle.std.proofs.Common.{◌-◌, ◌≤◌, length}
use Rattle.mirror_schedule.specs.Splits.{ends_before}
use Rattle.mirror_schedule.specs.Sorted.{place_of}
use Rattle.mirror_schedule.proofs.splits.first_not_before.Given as goal

abbrev pub invariant-loop-low : goal.invariant-loop-low
invariant-loop-low l = record {
  above : l.low ≤ place_of ends_before l.x l.items.items;
  below : place_of ends_before l.x l.items.items ≤ l.high;
  inside : l.high ≤ length l.items.items;
}

abbrev pub decreases-loop-low : goal.decreases-loop-low
decreases-loop-low l = l.high - l.low
