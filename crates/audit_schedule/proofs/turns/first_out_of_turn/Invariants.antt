use Rattle.std.proofs.Common.{[]}
use Rattle.audit_schedule.specs.Turns.{IsInTurnHere, TellsTurns, with_entry}
use Rattle.audit_frame.proofs.Walking.{state_at, AreRight}
use Rattle.audit_schedule.proofs.turns.first_out_of_turn.Given as goal

-- the entries so far are in turn, and the marks tell what was sent and got in them
abbrev pub invariant-loop-i : goal.invariant-loop-i
invariant-loop-i l = record {
  tells : TellsTurns l.plan.params l.turns.latest l.turns.last l.turns.lowest (state_at with_entry [] l.log l.i);
  right : AreRight (IsInTurnHere l.plan.params) with_entry [] l.log l.i;
}
