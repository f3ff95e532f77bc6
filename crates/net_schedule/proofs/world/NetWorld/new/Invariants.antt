use Rattle.std.proofs.Common.{◌≡◌, map}
use Rattle.std.specs.List.{range_with_len}
use Rattle.net_schedule.specs.Cubs.{fresh_cub}
use Rattle.net_schedule.proofs.world.NetWorld.new.Given as goal

abbrev pub invariant-loop-c : goal.invariant-loop-c
invariant-loop-c l = l.all.items ≡ map (fresh_cub (record { cubs = l.cubs; quanta = l.quanta; capacity = l.capacity })) (range_with_len 0 l.c)
