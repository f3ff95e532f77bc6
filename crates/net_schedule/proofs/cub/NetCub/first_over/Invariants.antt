use Rattle.std.proofs.Common.{◌≡◌, ◌+◌, ◌-◌}
use Rattle.std.specs.Prelude.{find, option_map}
use Rattle.std.specs.List.{range_with_len}
use Rattle.net_schedule.specs.Cubs.{first_over, is_over, over_at}
use Rattle.net_schedule.proofs.cub.NetCub.first_over.Given as goal

abbrev pub invariant-loop-i : goal.invariant-loop-i
invariant-loop-i l = option_map (over_at l.self) (find (is_over l.self l.at l.rate) (range_with_len (l.first + l.i) (l.i-end - l.i))) ≡ first_over l.self l.at l.rate
