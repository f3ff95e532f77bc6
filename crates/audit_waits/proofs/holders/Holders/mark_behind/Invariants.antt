use Rattle.std.specs.Option.{ForSome}
use Rattle.audit_waits.specs.Seen.{IsIn, IsSoughtBehind, is_nobodys}
use Rattle.audit_waits.proofs.Windows.{time_behind}
use Rattle.audit_waits.proofs.holders.Holders.mark_behind.Given as goal

-- each visit of nobody's comes behind the last one that was looked at, which is in the window
abbrev pub invariant-loop-slot : goal.invariant-loop-slot
invariant-loop-slot l = record {
  sought : IsSoughtBehind l.plan.params l.reading l.disk.0 (is_nobodys l.self) l.last;
  entered : ForSome l.last (IsIn l.plan.params l.reading);
}

abbrev pub decreases-loop-slot : goal.decreases-loop-slot
decreases-loop-slot l = time_behind l.plan.params l.reading l.disk.0 l.last
