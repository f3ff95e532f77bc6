use Rattle.std.proofs.Common.{take}
use Rattle.audit_orders.specs.Stops.{TellsGone}
use Rattle.audit_orders.proofs.Stopping.{AreInTime}
use Rattle.audit_orders.proofs.stops.wrong_stop_by.Given as goal

-- the marks are the stops that are written so far, and each of them may take effect
abbrev pub invariant-loop-i : goal.invariant-loop-i
invariant-loop-i l = record {
  written : TellsGone l.gone (take l.i l.journal);
  in_time : AreInTime l.course l.finishes l.places l.gone;
}
