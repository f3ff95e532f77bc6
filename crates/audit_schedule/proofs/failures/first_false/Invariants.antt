use Rattle.run_model.specs.Moments.{opening, next_moment}
use Rattle.run_claims.specs.Truths.{IsTrueFailure}
use Rattle.audit_schedule.specs.Failures.{TellsAsks}
use Rattle.audit_frame.proofs.Walking.{state_at, AreRight}
use Rattle.audit_schedule.proofs.failures.first_false.Given as goal

-- the entries so far report true failures alone, and the set has the asks that met a fault
abbrev pub invariant-loop-i : goal.invariant-loop-i
invariant-loop-i l = record {
  tells : TellsAsks l.plan.params l.faults l.asks (state_at next_moment opening l.log l.i);
  right : AreRight (λ m x. IsTrueFailure l.plan.params l.faults m x.entry.what) next_moment opening l.log l.i;
}
