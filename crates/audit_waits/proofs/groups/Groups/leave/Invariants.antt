use Rattle.std.proofs.Common.{◌≡◌, ℕ, not, ◌&&◌, ◌==◌}
use Rattle.std.specs.List.{list_any}
use Rattle.audit_frame.specs.Tables.{has_pair}
use Rattle.audit_waits.proofs.Grouped.{leaves_pair}
use Rattle.audit_waits.proofs.groups.Groups.leave.Given as goal

-- what does not leave by the pairs that are left is what does not leave by all of them
abbrev pub invariant-loop-pair : goal.invariant-loop-pair
invariant-loop-pair l = record {
  told : (g n : ℕ) → (has_pair g n l.self && not (list_any (leaves_pair l.number g n) l.pair-iterator))
      ≡ (has_pair g n l.fn.self && not ((l.number == n) && has_pair l.number g l.groups));
}
