use Rattle.std.proofs.Common.{◌≡◌, drop}
use Rattle.scenario_check.specs.Stays.{crowd_among}
use Rattle.scenario_check.proofs.stays.first_crowd.Given as goal

abbrev pub invariant-loop-stay : goal.invariant-loop-stay
invariant-loop-stay l = crowd_among l.plan.params l.stays (drop l.stay-index l.stays) ≡ crowd_among l.plan.params l.stays l.stays
