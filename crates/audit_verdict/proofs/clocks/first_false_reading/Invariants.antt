use Rattle.audit_frame.proofs.Walking.{AreRight}
use Rattle.audit_verdict.proofs.Readings.{IsShown, no_state}
use Rattle.audit_verdict.proofs.clocks.first_false_reading.Given as goal

-- the readings so far are what the clocks show
abbrev pub invariant-loop-i : goal.invariant-loop-i
invariant-loop-i l = record { right : AreRight (IsShown l.course) no_state tt l.log l.i }
