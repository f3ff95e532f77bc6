use Rattle.std.specs.Option.{ForSome}
use Rattle.audit_waits.specs.Ticks.{is_missed_by}
use Rattle.audit_waits.specs.Seen.{IsIn, IsSoughtBehind}
use Rattle.audit_waits.proofs.Windows.{time_behind}
use Rattle.audit_waits.proofs.so_far.SoFar.are_taken_behind.Given as goal

-- each visit that is missed comes behind the last one that was looked at, which has come into the window
abbrev pub invariant-loop-slot : goal.invariant-loop-slot
invariant-loop-slot l = record {
  sought : IsSoughtBehind l.plan.params l.tick.reading l.disk.0 (is_missed_by l.plan.params l.self l.tick.cub.0 l.tick.beat) l.last;
  entered : ForSome l.last (IsIn l.plan.params l.tick.reading);
}

abbrev pub decreases-loop-slot : goal.decreases-loop-slot
decreases-loop-slot l = time_behind l.plan.params l.tick.reading l.disk.0 l.last
