use Rattle.std.proofs.Common.{take}
use Rattle.audit_orders.specs.Stops.{NoneIsMissed}
use Rattle.audit_orders.proofs.stops.first_missed.Given as goal

-- of the orders so far none has a stop that is missed
abbrev pub invariant-loop-i : goal.invariant-loop-i
invariant-loop-i l = record { none : NoneIsMissed l.course l.places l.gone (take l.i l.orders) }
