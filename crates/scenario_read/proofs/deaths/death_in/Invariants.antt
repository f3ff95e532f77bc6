use Rattle.std.proofs.Common.{◌≡◌, drop}
use Rattle.scenario_read.specs.Deaths.{death_in}
use Rattle.scenario_read.proofs.deaths.death_in.Given as goal

abbrev pub invariant-loop-death : goal.invariant-loop-death
invariant-loop-death l = death_in (drop l.death-index l.deaths) l.cub ≡ death_in l.deaths l.cub
