use Rattle.std.proofs.Common.{[]}
use Rattle.audit_frame.proofs.Walking.{state_at, AreRight}
use Rattle.audit_visits.specs.Once.{TellsServed, front_with}
use Rattle.audit_visits.proofs.Stepping.{ServesOnce}
use Rattle.audit_visits.proofs.visits.first_served_twice.Given as goal

-- each entry so far serves once behind those before it, and the tables tell what all of them did
abbrev pub invariant-loop-i : goal.invariant-loop-i
invariant-loop-i l = record {
  tells : TellsServed l.served.sent l.served.asked l.served.dead (state_at front_with [] l.log l.i);
  right : AreRight (ServesOnce l.plan.params) front_with [] l.log l.i;
}
