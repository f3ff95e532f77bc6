use Rattle.std.proofs.Common.{◌≤◌, take}
use Rattle.partial_view.proofs.Rounds.{AreNone}
use Rattle.partial_view.proofs.wheel.Wheel.next_due.Given as goal

abbrev pub invariant-loop-bucket : goal.invariant-loop-bucket
invariant-loop-bucket l = record {
  later : l.time ≤ l.least;
  none : AreNone l.time l.least (take l.bucket-index l.bucket-items);
}
