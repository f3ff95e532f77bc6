use Rattle.run_model.specs.Moments.{opening, next_moment}
use Rattle.audit_schedule.specs.Fair.{IsFairSoFar}
use Rattle.audit_schedule.specs.Puts.{TellsPuts}
use Rattle.audit_frame.proofs.Walking.{state_at, AreRight}
use Rattle.audit_schedule.proofs.puts.first_unfair_put.Given as goal

-- the entries so far are fair, and the tables tell what they make
abbrev pub invariant-loop-i : goal.invariant-loop-i
invariant-loop-i l = record {
  tells : TellsPuts l.so_far.seats l.so_far.stopped l.so_far.put l.so_far.believed (state_at next_moment opening l.log l.i);
  right : AreRight (IsFairSoFar l.plan.params l.orders) next_moment opening l.log l.i;
}
