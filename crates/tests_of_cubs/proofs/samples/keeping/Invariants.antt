use Rattle.cub_rules.specs.State.{IsStoreOf}
use Rattle.tests_of_cubs.proofs.samples.keeping.Given as goal

abbrev pub invariant-loop-keep : goal.invariant-loop-keep
invariant-loop-keep l = IsStoreOf l.site.plan.params l.site.cub.0 l.store
