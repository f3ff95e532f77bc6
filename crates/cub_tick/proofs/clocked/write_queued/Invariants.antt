use Rattle.std.proofs.Common.{◌≡◌, ◌++◌, map, take}
use Rattle.cub_rules.specs.Ticks.{queued}
use Rattle.cub_tick.proofs.clocked.write_queued.Given as goal

abbrev pub invariant-loop-ask : goal.invariant-loop-ask
invariant-loop-ask l = l.out ≡ l.fn.out ++ map queued (take l.ask-index l.asks)
