use Rattle.std.proofs.Common.{◌≡◌, ◌≤◌, length, map, take}
use Rattle.audit_orders.specs.Starts.{all_sent, dated_of}
use Rattle.audit_orders.proofs.starts.compare.Given as goal

-- the starts sent so far are the first of those that are wanted
abbrev pub invariant-loop-i : goal.invariant-loop-i
invariant-loop-i l = record {
  inside : l.next ≤ length l.wanted;
  met : all_sent l.plan.params (take l.i l.journal) ≡ map dated_of (take l.next l.wanted);
}
