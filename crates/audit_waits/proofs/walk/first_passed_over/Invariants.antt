use Rattle.std.proofs.Common.{ℕ, ◌<◌, None}
use Rattle.run_claims.specs.Accounts.{ticks_in}
use Rattle.audit_frame.specs.Lines.{told_by}
use Rattle.audit_waits.specs.Seen.{AreMarks}
use Rattle.audit_waits.specs.Ticks.{SaysBeat, StandsBefore}
use Rattle.audit_waits.proofs.walk.first_passed_over.Given as goal

-- the walk stands behind the beats so far, in which nobody is passed over
abbrev pub invariant-loop-beat : goal.invariant-loop-beat
invariant-loop-beat l = record {
  marks : AreMarks l.course.plan.params l.walk.so_far.holders l.walk.marks.items;
  stands : StandsBefore l.course.plan.params l.orders l.log l.walk l.beat 0;
  says : (b : ℕ) → b < l.beat → SaysBeat l.course.plan.params l.orders (ticks_in l.course) (told_by l.log) b None;
}
