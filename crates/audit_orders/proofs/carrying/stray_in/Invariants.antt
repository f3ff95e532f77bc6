use Rattle.std.proofs.Common.{◌≡◌, take}
use Rattle.slot_plan.specs.declared.params.Params.{Params}
use Rattle.node_kit.specs.Links.{links_of}
use Rattle.audit_orders.specs.Carrying.{AreAtEnds}
use Rattle.audit_orders.proofs.carrying.stray_in.Given as goal

-- the entries so far stand at their ends
abbrev pub invariant-loop-i : goal.invariant-loop-i
invariant-loop-i l = record {
  at_ends : (p : Params) → l.links ≡ links_of p → AreAtEnds p l.node.0 (take l.i l.journal);
}
