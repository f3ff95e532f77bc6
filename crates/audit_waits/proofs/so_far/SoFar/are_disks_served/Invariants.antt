use Rattle.std.proofs.Common.{ℕ, ◌+◌, ◌*◌, ◌<◌, List}
use Rattle.node_kit.specs.declared.course.Order.{Order}
use Rattle.run_model.specs.Moments.{Moment}
use Rattle.audit_waits.specs.Seen.{AreMarks}
use Rattle.audit_waits.specs.Ticks.{IsDiskServed, TellsWaits}
use Rattle.audit_waits.proofs.so_far.SoFar.are_disks_served.Given as goal

-- the marks are right, and the disks so far are served
abbrev pub invariant-loop-k : goal.invariant-loop-k
invariant-loop-k l = record {
  marks : AreMarks l.plan.params l.self.holders l.marks.items;
  served : (orders : List Order) (m : Moment) → TellsWaits l.plan.params orders l.self m → (k : ℕ) → k < l.k
      → IsDiskServed l.plan.params l.self.starts.disks m l.tick.cub.0 l.tick.beat l.tick.reading l.redundant (l.cub.0 + k * l.plan.params.cubs);
}
