use Rattle.run_facts.specs.Order.{beat_of}
use Rattle.run_model.specs.Moments.{opening, next_moment}
use Rattle.run_claims.specs.Returns.{BringsNobodyBack}
use Rattle.audit_schedule.specs.Stops.{TellsStops}
use Rattle.audit_frame.proofs.Walking.{state_at, AreRight}
use Rattle.audit_schedule.proofs.stops.first_return.Given as goal

-- the entries so far bring nobody back, and the marks tell their stops
abbrev pub invariant-loop-i : goal.invariant-loop-i
invariant-loop-i l = record {
  tells : TellsStops l.stops (state_at next_moment opening l.log l.i);
  right : AreRight (λ m x. BringsNobodyBack l.plan.params m (beat_of x) x.entry.what) next_moment opening l.log l.i;
}
