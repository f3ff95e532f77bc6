use Rattle.std.proofs.Common.{◌≡◌}
use Rattle.scenario_read.specs.Deaths.{by_cub, beat_of_death, cut_of_death, return_of_death}
use Rattle.scenario_read.proofs.deaths.rows_of.Given as goal

abbrev pub invariant-loop-cub : goal.invariant-loop-cub
invariant-loop-cub l = record {
  deaths : l.deaths.items ≡ by_cub beat_of_death l.cub l.given;
  cuts : l.cuts.items ≡ by_cub cut_of_death l.cub l.given;
  backs : l.backs.items ≡ by_cub return_of_death l.cub l.given;
}
