use Rattle.std.proofs.Common.{◌≡◌, ◌-◌, ◌++◌, map}
use Rattle.std.specs.List.{range_with_len}
use Rattle.disk_death.specs.Spares.{sent_to_mirror}
use Rattle.disk_death.proofs.splitting.send_pieces.Given as goal

abbrev pub invariant-loop-k : goal.invariant-loop-k
invariant-loop-k l = l.out ≡ l.fn.out ++ map (sent_to_mirror l.site.plan.params l.site.cub.0 l.rec) (range_with_len 1 (l.k - 1))
