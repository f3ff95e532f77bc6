use Rattle.std.proofs.Common.{◌≡◌, ◌-◌, ◌≤◌, ◌++◌}
use Rattle.cub_tick.proofs.Splits.{sent_to}
use Rattle.cub_tick.proofs.splitting.send_pieces.Given as goal

abbrev pub invariant-loop-k : goal.invariant-loop-k
invariant-loop-k l = (2 ≤ l.k) × (l.out ≡ l.fn.out ++ sent_to l.fn.site.plan.params l.fn.site.cub.0 l.fn.rec (l.k - 2))
