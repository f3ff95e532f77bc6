use Rattle.std.proofs.Common.{◌≤◌}
use Rattle.audit_blocks.proofs.Visiting.{AreServedBelow}
use Rattle.audit_blocks.proofs.serving.is_served.Given as goal

-- the settled visits so far were served
abbrev pub invariant-loop-visit : goal.invariant-loop-visit
invariant-loop-visit l = record {
  from : l.t.first ≤ l.visit;
  below : AreServedBelow l.k l.t l.visit;
}
