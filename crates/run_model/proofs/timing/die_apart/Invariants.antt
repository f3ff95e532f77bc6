use Rattle.std.proofs.Common.{◌≡◌, true}
use Rattle.run_model.specs.Tests.{all_below, one_lives}
use Rattle.run_model.proofs.timing.die_apart.Given as goal

-- of the cubs so far each or the next one lives on
abbrev pub invariant-loop-n : goal.invariant-loop-n
invariant-loop-n l = all_below (one_lives l.course) l.n ≡ true
