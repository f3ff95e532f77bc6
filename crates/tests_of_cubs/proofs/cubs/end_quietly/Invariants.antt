use Rattle.cub_rules.specs.State.{IsCub}
use Rattle.tests_of_cubs.proofs.cubs.end_quietly.Given as goal

abbrev pub invariant-loop-beat : goal.invariant-loop-beat
invariant-loop-beat l = IsCub l.cub l.site.plan.params l.site.cub.0
