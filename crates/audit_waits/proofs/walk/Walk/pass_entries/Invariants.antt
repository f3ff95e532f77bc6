use Rattle.std.proofs.Common.{◌-◌, List, length}
use Rattle.node_kit.specs.declared.course.Order.{Order}
use Rattle.audit_waits.specs.Seen.{AreMarks}
use Rattle.audit_waits.specs.Ticks.{StandsBefore}
use Rattle.audit_waits.proofs.walk.Walk.pass_entries.Given as goal

-- the walk stands where it may
abbrev pub invariant-loop-line : goal.invariant-loop-line
invariant-loop-line l = record {
  marks : AreMarks l.plan.params l.self.so_far.holders l.self.marks.items;
  stands : (orders : List Order) → StandsBefore l.plan.params orders l.log l.fn.self l.beat l.cub.0
      → StandsBefore l.plan.params orders l.log l.self l.beat l.cub.0;
}

abbrev pub decreases-loop-line : goal.decreases-loop-line
decreases-loop-line l = length l.log - l.self.place
