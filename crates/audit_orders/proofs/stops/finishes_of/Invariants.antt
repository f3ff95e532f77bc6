use Rattle.std.proofs.Common.{take}
use Rattle.audit_orders.specs.Stops.{TellsFinishes}
use Rattle.audit_orders.proofs.stops.finishes_of.Given as goal

-- the set has the stops of the orders so far
abbrev pub invariant-loop-i : goal.invariant-loop-i
invariant-loop-i l = record { tells : TellsFinishes l.finishes (take l.i l.orders) }
