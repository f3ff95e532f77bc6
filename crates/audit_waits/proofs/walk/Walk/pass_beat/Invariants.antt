use Rattle.std.proofs.Common.{ℕ, ◌<◌, List, None}
use Rattle.node_kit.specs.declared.course.Order.{Order}
use Rattle.run_claims.specs.Accounts.{ticks_in}
use Rattle.audit_frame.specs.Lines.{told_by}
use Rattle.audit_waits.specs.Seen.{AreMarks}
use Rattle.audit_waits.specs.Ticks.{SaysTick, StandsBefore}
use Rattle.audit_waits.proofs.walk.Walk.pass_beat.Given as goal

-- the walk stands where it may, and nobody is passed over at the ticks so far
abbrev pub invariant-loop-cub : goal.invariant-loop-cub
invariant-loop-cub l = record {
  marks : AreMarks l.course.plan.params l.self.so_far.holders l.self.marks.items;
  stands : (orders : List Order) → StandsBefore l.course.plan.params orders l.log l.fn.self l.beat 0
      → StandsBefore l.course.plan.params orders l.log l.self l.beat l.cub;
  says : (orders : List Order) → StandsBefore l.course.plan.params orders l.log l.fn.self l.beat 0
      → (cub : ℕ) → cub < l.cub → SaysTick l.course.plan.params orders (ticks_in l.course) (told_by l.log) cub l.beat None;
}
