use Rattle.audit_blocks.proofs.Noting.{HasTaken}
use Rattle.audit_blocks.proofs.tables.Tables.of.Given as goal

-- the tables tell of the journals so far
abbrev pub invariant-loop-n : goal.invariant-loop-n
invariant-loop-n l = record { told : HasTaken l.plan.params l.n l.journals l.tables }
