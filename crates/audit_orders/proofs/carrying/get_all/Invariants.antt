use Rattle.std.proofs.Common.{take}
use Rattle.audit_orders.specs.Carrying.{all_entries, TellsGot}
use Rattle.audit_orders.proofs.carrying.get_all.Given as goal

-- what the journals so far got is the first of what all sent
abbrev pub invariant-loop-n : goal.invariant-loop-n
invariant-loop-n l = record { got : TellsGot l.course (all_entries l.journals) l.got (all_entries (take l.n l.journals)) }
