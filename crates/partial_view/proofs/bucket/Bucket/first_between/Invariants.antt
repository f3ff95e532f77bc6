use Rattle.std.proofs.Common.{◌≡◌, ◌-◌, ◌≤◌, drop, length}
use Rattle.partial_view.specs.Views.{place_from}
use Rattle.partial_view.specs.Work.{first_between, is_left}
use Rattle.partial_view.proofs.bucket.Bucket.first_between.Given as goal

abbrev pub invariant-loop-row : goal.invariant-loop-row
invariant-loop-row l = record {
  from : place_from l.self.params l.from l.self.lines ≤ l.row;
  same : first_between l.self.params (is_left l.work) l.from l.to (drop l.row l.self.lines) ≡ first_between l.self.params (is_left l.work) l.from l.to l.self.lines;
}

abbrev pub decreases-loop-row : goal.decreases-loop-row
decreases-loop-row l = length l.dues - l.row
