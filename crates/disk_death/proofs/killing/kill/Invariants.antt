use Rattle.std.proofs.Common.{◌≡◌, ◌-◌, ◌++◌, map}
use Rattle.std.specs.List.{range_with_len}
use Rattle.disk_death.specs.Spares.{killed_ahead}
use Rattle.disk_death.proofs.killing.kill.Given as goal

abbrev pub invariant-loop-steps : goal.invariant-loop-steps
invariant-loop-steps l = l.out ≡ l.fn.out ++ map (killed_ahead l.site.plan.params l.site.cub.0 l.piece) (range_with_len 1 (l.steps - 1))
