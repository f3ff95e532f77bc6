use Rattle.std.proofs.Common.{◌≡◌, ℕ, ◌&&◌, ◌||◌, ◌==◌}
use Rattle.std.specs.List.{list_any}
use Rattle.audit_frame.specs.Tables.{has_pair}
use Rattle.audit_waits.specs.Starts.{cub_for}
use Rattle.audit_waits.proofs.Grouped.{lets_pair}
use Rattle.audit_waits.proofs.groups.Groups.let_in.Given as goal

-- what waits and what the pairs that are left let in is what all of them let in
abbrev pub invariant-loop-pair : goal.invariant-loop-pair
invariant-loop-pair l = record {
  told : (d n : ℕ)
      → (has_pair d n l.self || list_any (lets_pair l.plan.params l.redundant l.node.0 l.v.0 d n) l.pair-iterator)
      ≡ (has_pair d n l.fn.self || ((l.v.0 == n) && (has_pair n d l.disks && (l.node.0 == cub_for l.plan.params l.redundant d))));
}
