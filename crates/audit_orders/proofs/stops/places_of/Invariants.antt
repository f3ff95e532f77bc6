use Rattle.std.proofs.Common.{take}
use Rattle.audit_orders.specs.Stops.{TellsPlaces}
use Rattle.audit_orders.proofs.stops.places_of.Given as goal

-- the table has the tenancies of the entries so far
abbrev pub invariant-loop-i : goal.invariant-loop-i
invariant-loop-i l = record { tells : TellsPlaces l.plan.params l.places (take l.i l.journal) }
