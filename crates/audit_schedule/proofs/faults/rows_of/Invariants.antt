use Rattle.std.proofs.Common.{take}
use Rattle.audit_schedule.specs.DiskRows.{AreFaultRows}
use Rattle.audit_schedule.proofs.faults.rows_of.Given as goal

-- the faults so far stand in their rows
abbrev pub invariant-loop-fault : goal.invariant-loop-fault
invariant-loop-fault l = record { stand : AreFaultRows l.rows.items (take l.fault-index l.faults) }
