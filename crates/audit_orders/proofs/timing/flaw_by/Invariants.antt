use Rattle.std.proofs.Common.{◌≡◌, take}
use Rattle.std.specs.List.{fold}
use Rattle.run_model.specs.Fronts.{AtEach}
use Rattle.audit_orders.specs.Timing.{nothing_yet, next_so_far}
use Rattle.audit_orders.proofs.Timely.{May}
use Rattle.audit_orders.proofs.timing.flaw_by.Given as goal

-- each entry so far may come where it stands, and this is known of them
abbrev pub invariant-loop-i : goal.invariant-loop-i
invariant-loop-i l = record {
  known : l.so_far ≡ fold next_so_far nothing_yet (take l.i l.journal);
  right : AtEach (May l.plan.params l.beats l.term) next_so_far nothing_yet (take l.i l.journal);
}
