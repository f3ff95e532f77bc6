use Rattle.std.proofs.Common.{take}
use Rattle.run_report.specs.Told.{IsToldBy}
use Rattle.run_report.proofs.told.Told.read_others.Given as goal

-- the journals so far were read
abbrev pub invariant-loop-node : goal.invariant-loop-node
invariant-loop-node l = IsToldBy l.plan.params (take l.node l.journals) l.self
