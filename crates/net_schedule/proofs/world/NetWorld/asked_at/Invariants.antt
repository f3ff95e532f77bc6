use Rattle.std.proofs.Common.{◌≡◌, ◌-◌}
use Rattle.std.specs.Prelude.{find}
use Rattle.std.specs.List.{range_with_len}
use Rattle.net_schedule.specs.Cubs.{is_asked}
use Rattle.net_schedule.specs.Worlds.{cub_at, asked_at}
use Rattle.net_schedule.proofs.world.NetWorld.asked_at.Given as goal

abbrev pub invariant-loop-c : goal.invariant-loop-c
invariant-loop-c l = find (λ c. is_asked (cub_at l.self c).own l.v) (range_with_len l.c (l.c-end - l.c)) ≡ asked_at l.self l.v
