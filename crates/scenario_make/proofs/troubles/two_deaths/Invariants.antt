use Rattle.std.proofs.Common.{◌≡◌}
use Rattle.scenario_make.specs.Troubles.{two_deaths}
use Rattle.scenario_make.proofs.troubles.two_deaths.Given as goal

abbrev pub invariant-loop-cub : goal.invariant-loop-cub
invariant-loop-cub l = l.deaths.items ≡ two_deaths l.first l.second l.cub
