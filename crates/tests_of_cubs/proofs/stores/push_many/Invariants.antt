use Rattle.std.specs.List.{AllByRecursion}
use Rattle.cub_rules.specs.State.{IsPartHere}
use Rattle.tests_of_cubs.proofs.stores.push_many.Given as goal

abbrev pub invariant-loop-instance : goal.invariant-loop-instance
invariant-loop-instance l = AllByRecursion (IsPartHere l.plan.params) l.parts
