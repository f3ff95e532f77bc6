use Rattle.net_schedule.specs.Cubs.{kept_rate}
use Rattle.net_schedule.proofs.Partly.{IsPartly}
use Rattle.std.proofs.Common.{◌≡◌, ◌+◌}
use Rattle.net_schedule.proofs.loads.lower.Given as goal

abbrev pub invariant-loop-i : goal.invariant-loop-i
invariant-loop-i l = IsPartly (λ i old new. old ≡ new + kept_rate l.ring (l.first + i) l.entry) l.i l.fn.loads.items l.loads.items
