use Rattle.std.proofs.Common.{◌≡◌, ◌+◌, ◌-◌, ◌≤◌, length, drop}
use Rattle.node_kit.specs.Outputs.{send_count}
use Rattle.node_kit.proofs.outbox.count_sends.Given as goal

abbrev pub invariant-loop-i : goal.invariant-loop-i
invariant-loop-i g l =
    (l.count + send_count (drop l.i l.fn.outs.items) ≡ send_count l.fn.outs.items) × (l.i ≤ length l.fn.outs.items)
    × (l.count ≤ l.i)

abbrev pub decreases-loop-i : goal.decreases-loop-i
decreases-loop-i g l = length l.fn.outs.items - l.i
