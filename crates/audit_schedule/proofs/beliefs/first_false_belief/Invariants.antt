use Rattle.run_model.specs.Moments.{opening, next_moment}
use Rattle.run_claims.specs.Truths.{IsTrueBelief}
use Rattle.audit_schedule.specs.Beliefs.{TellsDead}
use Rattle.audit_frame.proofs.Walking.{state_at, AreRight}
use Rattle.audit_schedule.proofs.beliefs.first_false_belief.Given as goal

-- the entries so far are right, and the set has the nodes that died in them
abbrev pub invariant-loop-i : goal.invariant-loop-i
invariant-loop-i l = record {
  tells : TellsDead l.dead (state_at next_moment opening l.log l.i);
  right : AreRight (λ m x. IsTrueBelief m x.entry.what) next_moment opening l.log l.i;
}
