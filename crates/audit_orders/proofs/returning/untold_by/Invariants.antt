use Rattle.std.proofs.Common.{◌≡◌, false, take}
use Rattle.std.specs.List.{fold}
use Rattle.run_model.specs.Fronts.{AtEach}
use Rattle.audit_orders.proofs.Untold.{MayFollow, died_next}
use Rattle.audit_orders.proofs.returning.untold_by.Given as goal

-- each entry so far may stand where it does, and this is known of the last one
abbrev pub invariant-loop-i : goal.invariant-loop-i
invariant-loop-i l = record {
  known : l.died ≡ fold died_next false (take l.i l.journal);
  right : AtEach (MayFollow l.back) died_next false (take l.i l.journal);
}
