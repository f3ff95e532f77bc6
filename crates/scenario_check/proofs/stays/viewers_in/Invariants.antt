use Rattle.std.proofs.Common.{◌≡◌, take}
use Rattle.scenario_check.specs.Stays.{viewers_in}
use Rattle.scenario_check.proofs.stays.viewers_in.Given as goal

abbrev pub invariant-loop-stay : goal.invariant-loop-stay
invariant-loop-stay l = l.viewers ≡ viewers_in l.plan.params l.beat (take l.stay-index l.stays)
