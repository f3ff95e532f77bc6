use Rattle.std.proofs.Common.{◌≡◌, ℕ, ◌<◌, List, Some, slice_get}
use Rattle.node_kit.specs.declared.journal.Entry.{Entry}
use Rattle.audit_orders.specs.Carrying.{AreAtEnds}
use Rattle.audit_orders.proofs.carrying.first_stray.Given as goal

-- the journals so far stand at their ends
abbrev pub invariant-loop-n : goal.invariant-loop-n
invariant-loop-n l = record {
  at_ends : (m : ℕ) (journal : List Entry) → m < l.n → slice_get l.journals m ≡ Some journal → AreAtEnds l.course.plan.params m journal;
}
