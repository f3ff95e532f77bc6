use Rattle.std.proofs.Common.{take}
use Rattle.run_facts.specs.Commanded.{StopsNone}
use Rattle.audit_orders.proofs.foreign.first_gone.Given as goal

-- the entries so far stop none
abbrev pub invariant-loop-i : goal.invariant-loop-i
invariant-loop-i l = record { none : StopsNone (take l.i l.journal) }
