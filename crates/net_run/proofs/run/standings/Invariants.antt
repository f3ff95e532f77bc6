use Rattle.std.proofs.Common.{◌≡◌, take}
use Rattle.net_run.specs.Runs.{standings}
use Rattle.net_run.proofs.run.standings.Given as goal

-- those so far
abbrev pub invariant-loop-order : goal.invariant-loop-order
invariant-loop-order l = l.entries.items ≡ standings (take l.order-index l.orders) l.world
