use Rattle.std.proofs.Common.{◌≡◌, map}
use Rattle.std.specs.List.{range_with_len}
use Rattle.disk_death.proofs.DeadFrom.{death_in_row}
use Rattle.disk_death.proofs.deaths.deaths_of.Given as goal

abbrev pub invariant-loop-row : goal.invariant-loop-row
invariant-loop-row l = l.deaths.items ≡ map (death_in_row l.plan.params l.faults l.beats l.cub.0) (range_with_len 0 l.row)
